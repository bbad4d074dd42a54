use Rattle.std.proofs.Common.{◌≡◌, [], take, drop}
use Rattle.evaluation.specs.Evaluation.{point_check}
use Rattle.evaluation.proofs.points.check_points.Given as goal

abbrev pub invariant-loop-place : goal.invariant-loop-place
invariant-loop-place l = point_check l.order [] 0 l.points ≡ point_check l.order (take l.place l.points) l.place (drop l.place l.points)
