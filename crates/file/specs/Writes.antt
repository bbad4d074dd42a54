-- What writing a sheet answers.
use Rattle.std.specs.Prelude.{◌≡◌, ℕ, ◌+◌, ◌*◌, List, ◌++◌, map, length, drop, Some, None, Ok, Err, Option, Result, ◌==◌, nat_le, slice_index}
use Rattle.std.specs.List.{range_with_len}
use Rattle.fields.specs.Checks.{Check, unless, and_then}
use Rattle.codes.specs.Checks.{number_check}
use Rattle.codes.specs.Meaning.{Meaning}
use Rattle.carrier.specs.Checks.{fit_check, from_code}
use Rattle.carrier.specs.Sheets.{row}
use Rattle.carrier.specs.declared.fault.CollectorFault.{CollectorFault}
use Rattle.carrier.specs.declared.fault.CollectorFault.TheVariants.{SheetLength}
use Rattle.file.specs.declared.fault.FileFault.{FileFault}
use Rattle.file.specs.declared.fault.FileFault.TheVariants.{Field, Collector, Output}
use Rattle.file.specs.declared.heading.Heading.{Heading}
use Rattle.file.specs.Form.{Strip, strip, strips_bytes, trailer}

-- strip j of numbers that are given by row and place
abbrev pub strip_by : (ℕ → ℕ → ℕ) → ℕ → ℕ → Strip
strip_by x D j = strip j (map (λ i. x i j) (range_with_len 0 D))

abbrev pub strips_by : (ℕ → ℕ → ℕ) → ℕ → ℕ → List Strip
strips_by x D n = map (strip_by x D) (range_with_len 0 n)

-- entry j of the word of row i
abbrev pub entry_by : Meaning → List ℕ → ℕ → ℕ → ℕ
entry_by M sheet i j = slice_index (M.word (row M.dimension i sheet)) j

-- all strips of a sheet of D rows, in order
abbrev pub strips_of_sheet : Meaning → ℕ → List ℕ → List Strip
strips_of_sheet M D sheet = strips_by (entry_by M sheet) D M.long

-- the bytes of a file with nothing before its strips
abbrev pub file_bytes : Heading → List Strip → List ℕ
file_bytes h ss = strips_bytes ss ++ trailer h (length (strips_bytes ss))

-- a collector's check, as the file's
abbrev pub from_collector : Check CollectorFault → Check FileFault
from_collector (Ok u) = Ok tt
from_collector (Err f) = Err (Collector f)

-- the checks of writing a sheet for a code and a depth; `room` is the length of the output
abbrev pub write_check : Meaning → ℕ → List ℕ → ℕ → Check FileFault
write_check M D sheet room =
    and_then (from_collector (fit_check M D))
    (unless (length sheet == D * M.dimension) (Collector SheetLength)
    (and_then (from_collector (from_code (number_check M.order 0 sheet)))
    (unless (nat_le (M.long * (1 + 2 * D) + 8) room) Output (Ok tt))))

-- by the outcome of the checks: the file at the output's start and its length, or the fault and the output as it was
abbrev pub Written : Check FileFault → (file old new : List ℕ) → Result ℕ FileFault → Type 0
Written (Ok u) file old new r = (r ≡ Ok (length file)) × (new ≡ file ++ drop (length file) old)
Written (Err f) file old new r = (r ≡ Err f) × (new ≡ old)

-- writing with a code that means M
abbrev pub WrittenWith : Meaning → Heading → (sheet old new : List ℕ) → Result ℕ FileFault → Type 0
WrittenWith M h sheet old new r =
    Written (write_check M h.depth sheet (length old)) (file_bytes h (strips_of_sheet M h.depth sheet)) old new r

-- writing with the code that a heading asks for, if it names a field
abbrev pub WrittenBy : Option Meaning → Heading → (sheet old new : List ℕ) → Result ℕ FileFault → Type 0
WrittenBy None h sheet old new r = (r ≡ Err Field) × (new ≡ old)
WrittenBy (Some M) h sheet old new r = WrittenWith M h sheet old new r
