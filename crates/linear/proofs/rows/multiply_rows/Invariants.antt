use Rattle.std.proofs.Common.{◌≡◌, ◌<◌, length}
use Rattle.linear.specs.Equations.{dot}
use Rattle.linear.specs.Operations.{operations}
use Rattle.linear.proofs.rows.multiply_rows.Given as goal

abbrev pub invariant-loop-x : goal.invariant-loop-x
invariant-loop-x g l =
    let F = operations g.F.Field l.f in
    let first = l.x-iterator.a.rest.now in
    let second = l.x-iterator.b.rest.now in
    (length first ≡ length second) × (l.sum < F.order) × (dot F l.a l.b ≡ F.plus l.sum (dot F first second))
