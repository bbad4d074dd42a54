-- The number, the place and the row by which each fault of a collector is reported; place and row are 0 where the fault has none. What is printed of each.
use Rattle.std.specs.Prelude.{ℕ, List, ◌++◌, codes}
use Rattle.std.specs.Fmt.{decimal}
use Rattle.codes.specs.Faults as code
use Rattle.carrier.specs.declared.fault.CollectorFault.{CollectorFault}
use Rattle.carrier.specs.declared.fault.CollectorFault.TheVariants.{Code, Depth, Place, StripLength, Taken, Vacant, SheetLength}

abbrev pub number : CollectorFault → ℕ
number (Code fault at) = code.number fault
number Depth = 14
number Place = 15
number StripLength = 16
number Taken = 17
number Vacant = 18
number SheetLength = 19

-- the place of the code's fault
abbrev pub place : CollectorFault → ℕ
place (Code fault at) = code.place fault
place Depth = 0
place Place = 0
place StripLength = 0
place Taken = 0
place Vacant = 0
place SheetLength = 0

-- the row of the sheet that the code's fault is about
abbrev pub row : CollectorFault → ℕ
row (Code fault at) = at
row Depth = 0
row Place = 0
row StripLength = 0
row Taken = 0
row Vacant = 0
row SheetLength = 0

-- what is printed of a fault
abbrev pub text : CollectorFault → List ℕ
text f = codes "refused " ++ decimal (number f) ++ codes " place " ++ decimal (place f) ++ codes " row " ++ decimal (row f)
