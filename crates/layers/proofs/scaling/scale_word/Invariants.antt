use Rattle.std.proofs.Common.{◌≡◌, ℕ, ◌<◌, ◌≤◌, get_or}
use Rattle.fields.specs.Arithmetic.{total}
use Rattle.layers.proofs.scaling.scale_word.Given as goal

abbrev pub invariant-loop-i : goal.invariant-loop-i
invariant-loop-i g l =
    let F = total (g.F.Field.arithmetic l.field) in
    ((k : ℕ) → k < l.i → get_or l.word k 0 ≡ F.times (get_or (g.M.Numbers.listed l.multipliers) k 0) (get_or l.initial.word k 0))
    × ((k : ℕ) → l.i ≤ k → get_or l.word k 0 ≡ get_or l.initial.word k 0)
