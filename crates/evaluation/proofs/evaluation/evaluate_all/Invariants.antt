use Rattle.std.proofs.Common.{◌≡◌, ◌++◌, map, take, drop}
use Rattle.linear.specs.Operations.{operations}
use Rattle.linear.specs.Polynomials.{value}
use Rattle.evaluation.proofs.evaluation.evaluate_all.Given as goal

abbrev pub invariant-loop-x : goal.invariant-loop-x
invariant-loop-x g l = l.points ≡ map (value (operations g.F.Field l.f) l.message) (take l.x-index l.initial.points) ++ drop l.x-index l.initial.points
