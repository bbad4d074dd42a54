use Rattle.std.proofs.Common.{◌≡◌, ℕ, ◌<◌, ◌≤◌, get_or}
use Rattle.linear.specs.Operations.{operations}
use Rattle.linear.proofs.rows.subtract_row.Given as goal

abbrev pub invariant-loop-i : goal.invariant-loop-i
invariant-loop-i g l =
    let F = operations g.F.Field l.f in
    ((k : ℕ) → k < l.i → get_or l.target k 0 ≡ F.plus (get_or l.initial.target k 0) (F.times (F.opposite l.by) (get_or l.pivot k 0)))
    × ((k : ℕ) → l.i ≤ k → get_or l.target k 0 ≡ get_or l.initial.target k 0)
