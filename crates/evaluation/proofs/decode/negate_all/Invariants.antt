use Rattle.std.proofs.Common.{◌≡◌, ◌++◌, map, take, drop}
use Rattle.linear.specs.Operations.{operations}
use Rattle.evaluation.proofs.decode.negate_all.Given as goal

abbrev pub invariant-loop-x : goal.invariant-loop-x
invariant-loop-x g l = l.numbers ≡ map (operations g.F.Field l.f).opposite (take l.x-index l.initial.numbers) ++ drop l.x-index l.initial.numbers
