use Rattle.std.proofs.Common.{◌≡◌, ◌-◌}
use Rattle.fields.specs.Bytes.{powered}
use Rattle.fields.proofs.gf256.inverse_of.Given as goal

abbrev pub invariant-loop : goal.invariant-loop
invariant-loop l = powered (7 - l.counter) l.square l.powers ≡ powered 7 l.a 1
