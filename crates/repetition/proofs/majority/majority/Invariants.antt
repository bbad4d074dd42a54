use Rattle.repetition.proofs.Repeats.{Left}
use Rattle.repetition.proofs.majority.majority.Given as goal

abbrev pub invariant-loop-number : goal.invariant-loop-number
invariant-loop-number l = Left l.order l.received l.marks l.number-iterator.a.rest.now l.number-iterator.b.rest.now
