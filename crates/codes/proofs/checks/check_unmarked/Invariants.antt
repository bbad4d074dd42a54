use Rattle.std.proofs.Common.{◌≡◌}
use Rattle.codes.specs.Checks.{unmarked_check}
use Rattle.codes.proofs.checks.check_unmarked.Given as goal

abbrev pub invariant-loop-place : goal.invariant-loop-place
invariant-loop-place l =
    (goal.iterator-loop-place).can_next l.place-iterator ×
    (goal.iterator-loop-place).is_finite l.place-iterator ×
    (unmarked_check l.order 0 l.numbers l.marks ≡ unmarked_check l.order l.place-iterator.count l.place-iterator.iter.a.rest.now l.place-iterator.iter.b.rest.now)
