-- What writing a sheet as a file answers.
use Rattle.std.specs.Prelude.{ℕ, List, Result}
use Rattle.file.specs.Meant.{code_of}
use Rattle.file.specs.Writes.{WrittenBy}
use Rattle.file.specs.declared.fault.FileFault.{FileFault}
use Rattle.file.specs.declared.heading.Heading.{Heading}
use Rattle.settings_carrier.specs.declared.report.Tally.{Tally}
use Rattle.settings_carrier.specs.Reports.{Tells}

-- what writing the sheet with the heading's code gives is told
pub record Writes (h : Heading) (sheet old new : List ℕ) (t : Tally) (number : ℕ) : Type 0 where
  pub outcome : Result ℕ FileFault
  pub written : WrittenBy (code_of h) h sheet old new outcome
  pub told : Tells outcome t number
