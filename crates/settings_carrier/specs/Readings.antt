-- What reading a file into a buffer answers.
use Rattle.std.specs.Prelude.{◌≡◌, ℕ, ◌*◌, ◌<◌, ◌≤◌, ◌⊎◌, List, ◌++◌, length, take, drop, Ok, Err, Result}
use Rattle.carrier.specs.declared.fault.CollectorFault.TheVariants.{SheetLength}
use Rattle.file.specs.Faults as fault
use Rattle.file.specs.Form.{Strip}
use Rattle.file.specs.Reads.{Taken}
use Rattle.file.specs.Receipts.{Receives}
use Rattle.file.specs.declared.fault.FileFault.{FileFault}
use Rattle.file.specs.declared.fault.FileFault.TheVariants.{Collector}
use Rattle.file.specs.declared.heading.Heading.{Heading}
use Rattle.file.specs.declared.received.Received.{Received}
use Rattle.settings_carrier.specs.declared.report.Report.{Report}
use Rattle.settings_carrier.specs.Reports.{found, lost}

-- how many numbers a heading's sheet has
abbrev pub size : Heading → ℕ
size h = h.depth * h.k

-- a file that is taken, and whose sheet has more numbers than there is room for
pub record Cramped (file : List ℕ) (room : ℕ) : Type 0 where
  pub short : length file ≤ 65535
  pub heading : Heading
  pub strips : List Strip
  pub taken : Taken heading strips file
  pub cramped : room < size heading

-- what receiving a file into so much room gives: too little of it is refused where the file is taken, before the strips are decoded
abbrev pub Fills : (file : List ℕ) (room : ℕ) → Result Received FileFault → Type 0
Fills file room (Ok x) = (size x.heading ≤ room) × Receives file (Ok x)
Fills file room (Err f) = (Cramped file room × (f ≡ Collector SheetLength)) ⊎ ((Cramped file room → ⊥) × Receives file (Err f))

-- a sheet is told by 0 and its report, and stands at the buffer's start; a refusal by its number, place and row, and the buffer is as it was
abbrev pub Told : Result Received FileFault → (old new : List ℕ) → Report → ℕ → Type 0
Told (Ok x) old new r number =
    (number ≡ 0) × (r ≡ found x) × (new ≡ take (size x.heading) x.sheet ++ drop (size x.heading) old)
Told (Err f) old new r number = (number ≡ fault.number f) × (r ≡ lost f) × (new ≡ old)

-- what a file gives in the room of the buffer is told
pub record Reads (file old new : List ℕ) (r : Report) (number : ℕ) : Type 0 where
  pub outcome : Result Received FileFault
  pub fills : Fills file (length old) outcome
  pub told : Told outcome old new r number
