use Rattle.std.proofs.Common.{◌≡◌, ℕ, ◌<◌, ◌≤◌, length, get_or}
use Rattle.linear.specs.Operations.{operations}
use Rattle.linear.specs.Equations.{row, reduced}
use Rattle.linear.proofs.solve.clear_column.Given as goal

abbrev pub invariant-loop-k : goal.invariant-loop-k
invariant-loop-k g l =
    let F = operations g.F.Field l.f in
    ((j : ℕ) → j < l.k → row (length l.pivot) j l.rows ≡ reduced F (row (length l.pivot) j l.initial.rows) (get_or (row (length l.pivot) j l.initial.rows) l.c 0) l.pivot)
    × ((j : ℕ) → l.k ≤ j → row (length l.pivot) j l.rows ≡ row (length l.pivot) j l.initial.rows)
