use Rattle.std.proofs.Common.{◌≡◌}
use Rattle.linear.specs.Operations.{operations}
use Rattle.symbols.specs.Symbols.{power}
use Rattle.symbols.proofs.powers.power.Given as goal

abbrev pub invariant-loop : goal.invariant-loop
invariant-loop g l = l.p ≡ power (operations g.F.Field l.f) l.x l.counter
