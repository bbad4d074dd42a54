use Rattle.std.proofs.Common.{◌≡◌, drop}
use Rattle.codes.specs.Checks.{zero_check}
use Rattle.codes.proofs.checks.check_zeros.Given as goal

abbrev pub invariant-loop-x : goal.invariant-loop-x
invariant-loop-x l = zero_check l.numbers ≡ zero_check (drop l.x-index l.numbers)
