-- What reading a file answers.
use Rattle.std.specs.Prelude.{◌≡◌, ℕ, ◌+◌, ◌*◌, ◌/◌, ◌<◌, ◌≤◌, List, ◌++◌, length, Some, None, Ok, Err, Option, Result, slice_index_or}
use Rattle.std.specs.List.{flat_map}
use Rattle.codes.specs.Meaning.{Meaning}
use Rattle.carrier.specs.Checks.{fit_check}
use Rattle.carrier.specs.declared.fault.CollectorFault.{CollectorFault}
use Rattle.file.specs.declared.fault.FileFault.{FileFault}
use Rattle.file.specs.declared.fault.FileFault.TheVariants.{TooShort, Field, BackCount, Collector, Output}
use Rattle.file.specs.declared.heading.Heading.{Heading}
use Rattle.file.specs.declared.reader.Reader.{Reader}
use Rattle.file.specs.declared.reader.Trailer.{Trailer}
use Rattle.file.specs.Form.{Strip, Form, two, trailer, strips_in}
use Rattle.file.specs.Meant.{code_of}

-- the strips that a part of a file holds
abbrev pub held : Heading → List ℕ → List Strip
held h part = strips_in h.depth (length part / (1 + 2 * h.depth)) part

-- the strips that a reader hands out
abbrev pub strips_of : Reader → List Strip
strips_of r = held r.heading r.strips.now

-- the file ends with this heading and this back count
pub record Ends (h : Heading) (back : ℕ) (file : List ℕ) : Type 0 where
  pub front : List ℕ
  pub bytes : file ≡ front ++ trailer h back

-- the last eight bytes, or there are fewer
abbrev pub Trailing : List ℕ → Option Trailer → Type 0
Trailing file (Some t) = (8 ≤ length file) × Ends t.heading t.back file
Trailing file None = length file < 8

-- the file has this heading, which asks for a fit collector of a code that means M, and these strips
pub record Holds (M : Meaning) (h : Heading) (strips : List Strip) (file : List ℕ) : Type 0 where
  pub code : code_of h ≡ Some M
  pub fit : fit_check M h.depth ≡ Ok tt
  pub form : Form h strips file

-- accepted with this heading and these strips, which are the only ones
pub record Taken (h : Heading) (strips : List Strip) (file : List ℕ) : Type 0 where
  pub meaning : Meaning
  pub holds : Holds meaning h strips file
  pub alone : (h' : Heading) (strips' : List Strip) → Form h' strips' file → (h' ≡ h) × (strips' ≡ strips)

-- the file ends with a heading that names no field
pub record Unknown (file : List ℕ) : Type 0 where
  pub heading : Heading
  pub back : ℕ
  pub ends : Ends heading back file
  pub unknown : code_of heading ≡ None

-- the file ends with a heading that names a field, and has no form
pub record Formless (file : List ℕ) : Type 0 where
  pub heading : Heading
  pub back : ℕ
  pub ends : Ends heading back file
  pub meaning : Meaning
  pub code : code_of heading ≡ Some meaning
  pub none : (h : Heading) (strips : List Strip) → Form h strips file → ⊥

-- the file has a form whose heading asks for a collector that is not fit
pub record Unfit (file : List ℕ) (f : CollectorFault) : Type 0 where
  pub heading : Heading
  pub strips : List Strip
  pub form : Form heading strips file
  pub meaning : Meaning
  pub code : code_of heading ≡ Some meaning
  pub unfit : fit_check meaning heading.depth ≡ Err f

-- why a file is refused
abbrev pub Declined : List ℕ → FileFault → Type 0
Declined file TooShort = length file < 8
Declined file Field = Unknown file
Declined file BackCount = Formless file
Declined file (Collector f) = Unfit file f
Declined file Output = ⊥

-- what reading a file answers: its one heading and strips, or why it is refused
abbrev pub Answer : List ℕ → Result Reader FileFault → Type 0
Answer file (Ok r) = Taken r.heading (strips_of r) file
Answer file (Err f) = Declined file f

-- strip i of these, as its place and the bytes of its numbers, and nothing past the last
abbrev pub Handed : List Strip → ℕ → Option (ℕ × List ℕ) → Type 0
Handed ss i None = length ss ≤ i
Handed ss i (Some p) =
    (i < length ss) × ((d : Strip) → (p.0 ≡ (slice_index_or ss i d).place) × (p.1 ≡ flat_map two (slice_index_or ss i d).numbers))
