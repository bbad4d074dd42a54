-- The operations of a field on all numbers, where a number that is not below the order counts as 0.
use Rattle.fields.specs.Arithmetic.{Arithmetic, total}
use Rattle.fields.specs.declared.field.Field as field

abbrev pub operations : {X : Type 0} → field.Ghosts X → X → Arithmetic
operations g f = total (g.arithmetic f)
