use Rattle.std.proofs.Common.{◌≡◌}
use Rattle.fields.specs.Binary.{remainder}
use Rattle.fields.proofs.gf256.reduce_by.Given as goal

abbrev pub invariant-loop-i : goal.invariant-loop-i
invariant-loop-i l = remainder l.polynomial l.i l.left ≡ remainder l.polynomial 8 l.x
