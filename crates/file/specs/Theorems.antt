-- Files and what they carry determine each other.
use Rattle.std.specs.Prelude.{◌≡◌, ℕ, ◌*◌, List, ◌++◌, length, Some, Ok}
use Rattle.std.specs.List.{AllByRecursion}
use Rattle.fields.specs.Numbers.{Below}
use Rattle.codes.specs.Meaning.{Meaning}
use Rattle.carrier.specs.Checks.{fit_check}
use Rattle.file.specs.declared.fault.FileFault.{FileFault}
use Rattle.file.specs.declared.heading.Heading.{Heading}
use Rattle.file.specs.Form.{Strip}
use Rattle.file.specs.Meant.{code_of}
use Rattle.file.specs.Reads.{Holds, Declined, Taken}
use Rattle.file.specs.Writes.{file_bytes, strips_of_sheet}

-- a heading whose collector is fit, with the code that it asks for
pub record Fitting (h : Heading) (M : Meaning) : Type 0 where
  pub code : code_of h ≡ Some M
  pub fit : fit_check M h.depth ≡ Ok tt

-- a sheet for such a heading: D × k numbers below q
pub record SheetFor (h : Heading) (M : Meaning) (sheet : List ℕ) : Type 0 where
  pub fitting : Fitting h M
  pub long : length sheet ≡ h.depth * M.dimension
  pub below : Below M.order sheet

-- what is written for a heading and strips, whatever stands before it, is read as that heading and those strips, and is not refused
abbrev pub ReadsBack : Type 0
ReadsBack =
    (h h' : Heading) (M : Meaning) (ss ss' : List Strip) (before : List ℕ) → Fitting h M → AllByRecursion (λ s. length s.numbers ≡ h.depth) ss →
    (Taken h' ss' (before ++ file_bytes h ss) → (h' ≡ h) × (ss' ≡ ss)) × ((f : FileFault) → Declined (before ++ file_bytes h ss) f → ⊥)

-- the files of two different headings, or of two different sheets, differ
abbrev pub ToldApart : Type 0
ToldApart =
    (h h' : Heading) (M M' : Meaning) (s s' : List ℕ) → SheetFor h M s → SheetFor h' M' s' →
    file_bytes h (strips_of_sheet M h.depth s) ≡ file_bytes h' (strips_of_sheet M' h'.depth s') → (h ≡ h') × (s ≡ s')

-- a file that is refused has no form whose heading's collector is fit
abbrev pub RefusedRightly : Type 0
RefusedRightly = (file : List ℕ) (f : FileFault) → Declined file f → (h : Heading) (M : Meaning) (ss : List Strip) → Holds M h ss file → ⊥
