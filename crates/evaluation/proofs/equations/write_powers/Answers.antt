use Rattle.std.proofs.Common.{◌≡◌, ℕ, ◌+◌, ◌<◌, length, get_or, set, sym, ap, ◌∙◌, subst, arith}
use Rattle.std.proofs.lemmas.List.{ext_get_or}
use Rattle.std.proofs.lemmas.List.Edits.{fill_by_more}
use Rattle.linear.specs.Operations.{operations}
use Rattle.evaluation.specs.Decoding.{power}
use Rattle.evaluation.proofs.Powers.{power-more, get_or-powers, length-powers}
use Rattle.evaluation.proofs.equations.write_powers.Goals as goal

pub loop-z-preserved : goal.loop-z-preserved
loop-z-preserved g c =
    let F = operations g.F.Field c.args.f.now in
    let i = c.loop-z.z-index in
    let xs = c.loop-z.part in
    let at : ℕ → ℕ = power F c.args.start c.args.x in (
      c.multiply-p.ensures ∙ ap (λ w. F.times w c.args.x) c.loop-z.invariant.0 ∙ power-more F c.args.start c.args.x i,
      subst (λ (r : ℕ). (k : ℕ) → k < i + 1 → get_or (set xs i r) k 0 ≡ at k) (sym c.loop-z.invariant.0) (fill_by_more at xs i 0 (omega arith) c.loop-z.invariant.1),
    )

pub returns : goal.returns
returns g c =
    let F = operations g.F.Field c.args.f.now in
    let n = length c.args.part.now in
    let long = length-powers F n c.args.start c.args.x in
    ext_get_or 0 _ _ (omega arith) (λ k h. c.loop-z.invariant.1 k (omega arith) ∙ sym (get_or-powers F n c.args.start c.args.x k (omega arith)))
