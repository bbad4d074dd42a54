-- The number, the place and the row by which each fault of a file is reported; place and row are 0 where the fault has none. What is printed of each.
use Rattle.std.specs.Prelude.{ℕ, List, ◌++◌, codes}
use Rattle.std.specs.Fmt.{decimal}
use Rattle.carrier.specs.Faults as collector
use Rattle.file.specs.declared.fault.FileFault.{FileFault}
use Rattle.file.specs.declared.fault.FileFault.TheVariants.{TooShort, Field, BackCount, Collector, Output}

abbrev pub number : FileFault → ℕ
number TooShort = 20
number Field = 21
number BackCount = 22
number (Collector fault) = collector.number fault
number Output = 23

-- the place of the collector's fault
abbrev pub place : FileFault → ℕ
place TooShort = 0
place Field = 0
place BackCount = 0
place (Collector fault) = collector.place fault
place Output = 0

-- the row of the collector's fault
abbrev pub row : FileFault → ℕ
row TooShort = 0
row Field = 0
row BackCount = 0
row (Collector fault) = collector.row fault
row Output = 0

-- what is printed of a fault
abbrev pub text : FileFault → List ℕ
text f = codes "refused " ++ decimal (number f) ++ codes " place " ++ decimal (place f) ++ codes " row " ++ decimal (row f)
