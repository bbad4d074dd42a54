use Rattle.std.proofs.Common.{◌≡◌}
use Rattle.fields.specs.Binary.{carryless}
use Rattle.fields.proofs.gf256.multiply_carryless.Given as goal

abbrev pub invariant-loop-i : goal.invariant-loop-i
invariant-loop-i l = l.sum ≡ carryless l.i l.a l.b
