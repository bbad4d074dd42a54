use Rattle.std.proofs.Common.{◌≡◌, ℕ, ◌-◌, ◌<◌, length, get_or, drop}
use Rattle.linear.specs.Operations.{operations}
use Rattle.linear.specs.Equations.{row}
use Rattle.evaluation.specs.Decoding.{present, equation}
use Rattle.evaluation.proofs.equations.write_equations.Given as goal

abbrev pub invariant-loop-x : goal.invariant-loop-x
invariant-loop-x g l =
    let F = operations g.F.Field l.f in
    let xs = present l.received.marks.now l.received.points.now in
    let ys = present l.received.marks.now l.received.numbers.now in
    let points = l.x-iterator.a.a.rest.now in
    let numbers = l.x-iterator.a.b.rest.now in
    let marks = l.x-iterator.b.rest.now in
    (length points ≡ length marks)
    × (length numbers ≡ length marks)
    × (drop l.r xs ≡ present marks points)
    × (drop l.r ys ≡ present marks numbers)
    × ((i : ℕ) → i < l.r → row l.w i l.rows ≡ equation F l.a (l.w - l.a) (get_or xs i 0) (get_or ys i 0))
