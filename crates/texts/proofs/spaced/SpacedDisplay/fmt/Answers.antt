use Rattle.std.proofs.Common.{rules, ◌≡◌, ℕ, ◌+◌, [], ◌∷◌, ◌++◌, get_or, take, sym, ap, ◌∙◌, codes}
use Rattle.std.proofs.Output.{has_written_append, has_written_of_eq}
use Rattle.std.proofs.lemmas.List.{take_more, take_all, flat_map_more}
use Rattle.std.specs.Fmt.{decimal}
use Rattle.texts.specs.Spaced.{spaced}
use Rattle.texts.proofs.spaced.SpacedDisplay.fmt.Goals as goal

pub loop-number-preserved : goal.loop-number-preserved
loop-number-preserved g c =
    let xs = c.args.self.now.0.now in
    let i = c.loop-number.number-index in
    let x = get_or xs i 0 in
    let more : take (i + 1) xs ≡ take i xs ++ x ∷ [] = take_more xs i 0 c.loop-number-test.true in
    let text : spaced (take i xs) ++ (codes " " ++ decimal x) ≡ spaced (take (i + 1) xs) = flat_map_more (λ (n : ℕ). codes " " ++ decimal n) [] (take i xs) x ∙ sym (ap spaced more) in
    λ p. has_written_of_eq _ _ _ _ _ text (has_written_append _ _ _ _ _ _ (c.loop-number.invariant p) (search rules))

pub returns-clause-writes : goal.returns-clause-writes
returns-clause-writes g c =
    let whole : spaced (take c.loop-number.number-index c.args.self.now.0.now) ≡ spaced c.args.self.now.0.now = ap spaced (take_all c.loop-number.number-index c.args.self.now.0.now c.loop-number-test.false) in
    λ p o. rw whole at (c.loop-number.invariant p)
