use Rattle.std.proofs.Common.{◌≡◌, ◌++◌, map, take, drop}
use Rattle.linear.specs.Operations.{operations}
use Rattle.linear.proofs.rows.scale_row.Given as goal

abbrev pub invariant-loop-x : goal.invariant-loop-x
invariant-loop-x g l = l.row ≡ map ((operations g.F.Field l.f).times l.by) (take l.x-index l.initial.row) ++ drop l.x-index l.initial.row
