use Rattle.std.proofs.Common.{◌≡◌, ℕ, ◌<◌, get_or}
use Rattle.linear.specs.Operations.{operations}
use Rattle.evaluation.specs.Decoding.{power}
use Rattle.evaluation.proofs.equations.write_powers.Given as goal

abbrev pub invariant-loop-z : goal.invariant-loop-z
invariant-loop-z g l =
    let F = operations g.F.Field l.f in
    (l.p ≡ power F l.start l.x l.z-index)
    × ((k : ℕ) → k < l.z-index → get_or l.part k 0 ≡ power F l.start l.x k)
