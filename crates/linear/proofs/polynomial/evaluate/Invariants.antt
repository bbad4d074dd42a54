use Rattle.std.proofs.Common.{◌≡◌}
use Rattle.linear.specs.Operations.{operations}
use Rattle.linear.specs.Polynomials.{value}
use Rattle.linear.proofs.Lists.{value-onto}
use Rattle.linear.proofs.polynomial.evaluate.Given as goal

abbrev pub invariant-loop-a : goal.invariant-loop-a
invariant-loop-a g l = value (operations g.F.Field l.f) l.p l.x ≡ value-onto (operations g.F.Field l.f) l.a-iterator.iter.rest.now l.x l.sum
