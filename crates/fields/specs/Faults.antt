-- The number by which each fault of a field is reported, and what is printed of it.
use Rattle.std.specs.Prelude.{ℕ, List, ◌++◌, codes}
use Rattle.std.specs.Fmt.{decimal}
use Rattle.fields.specs.declared.fault.FieldFault.{FieldFault}
use Rattle.fields.specs.declared.fault.FieldFault.TheVariants.{Unlisted}

abbrev pub number : FieldFault → ℕ
number Unlisted = 1

-- what is printed of a fault, which has neither place nor row
abbrev pub text : FieldFault → List ℕ
text f = codes "refused " ++ decimal (number f) ++ codes " place 0 row 0"
