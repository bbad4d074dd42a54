use Rattle.std.proofs.Common.{◌≡◌, ◌+◌, ◌≤◌, drop}
use Rattle.codes.specs.Words.{missing}
use Rattle.codes.proofs.checks.count_missing.Given as goal

abbrev pub invariant-loop-mark : goal.invariant-loop-mark
invariant-loop-mark l = (l.count ≤ l.mark-index) × (missing l.marks ≡ l.count + missing (drop l.mark-index l.marks))
