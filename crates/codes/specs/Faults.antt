-- The number and the place by which each fault is reported; the place is 0 where the fault has none. What is printed of each.
use Rattle.std.specs.Prelude.{ℕ, List, ◌++◌, codes}
use Rattle.std.specs.Fmt.{decimal}
use Rattle.codes.specs.declared.fault.FitnessFault.{FitnessFault}
use Rattle.codes.specs.declared.fault.FitnessFault.TheVariants.{Length, Dimension, Point, Order, Trim, FieldSize, Multiplier}
use Rattle.codes.specs.declared.fault.CodeFault.{CodeFault}
use Rattle.codes.specs.declared.fault.CodeFault.TheVariants.{Unfit, MessageLength, WordLength, Number, Scratch, Reach}

-- the number of the reason why a code is unfit
abbrev pub unfit_number : FitnessFault → ℕ
unfit_number Length = 2
unfit_number Dimension = 3
unfit_number (Point p) = 4
unfit_number Order = 5
unfit_number Trim = 6
unfit_number FieldSize = 7
unfit_number (Multiplier p) = 8

-- its place: that of a point or of a multiplier
abbrev pub unfit_place : FitnessFault → ℕ
unfit_place Length = 0
unfit_place Dimension = 0
unfit_place (Point p) = p
unfit_place Order = 0
unfit_place Trim = 0
unfit_place FieldSize = 0
unfit_place (Multiplier p) = p

-- the number of a call's fault
abbrev pub number : CodeFault → ℕ
number (Unfit f) = unfit_number f
number MessageLength = 9
number WordLength = 10
number (Number p) = 11
number Scratch = 12
number Reach = 13

-- its place: that of the fitness fault, or of a number
abbrev pub place : CodeFault → ℕ
place (Unfit f) = unfit_place f
place MessageLength = 0
place WordLength = 0
place (Number p) = p
place Scratch = 0
place Reach = 0

-- what is printed of a call's fault, which has no row
abbrev pub text : CodeFault → List ℕ
text f = codes "refused " ++ decimal (number f) ++ codes " place " ++ decimal (place f) ++ codes " row 0"
