use Rattle.std.proofs.Common.{◌≡◌, ◌+◌, ◌≤◌, length, drop, replicate}
use Rattle.codes.specs.Words.{wrong}
use Rattle.repetition.proofs.majority.count_wrong.Given as goal

abbrev pub invariant-loop-i : goal.invariant-loop-i
invariant-loop-i l =
    let word = replicate (length l.received) l.number in
    (l.count ≤ l.i)
    × (wrong l.received l.marks word ≡ l.count + wrong (drop l.i l.received) (drop l.i l.marks) (drop l.i word))
