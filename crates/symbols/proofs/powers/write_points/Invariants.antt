use Rattle.std.proofs.Common.{◌≡◌, ℕ, ◌<◌, get_or}
use Rattle.linear.specs.Operations.{operations}
use Rattle.symbols.specs.Symbols.{power}
use Rattle.symbols.proofs.powers.write_points.Given as goal

abbrev pub invariant-loop-x : goal.invariant-loop-x
invariant-loop-x g l =
    let F = operations g.F.Field l.f in
    (l.p ≡ power F l.g l.x-index) × ((k : ℕ) → k < l.x-index → get_or l.points k 0 ≡ power F l.g k)
