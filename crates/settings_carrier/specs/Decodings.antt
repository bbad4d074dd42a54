-- What decoding one word answers.
use Rattle.std.specs.Prelude.{◌≡◌, ℕ, ◌≤◌, List, length, Some, None, Ok, Err, Option, Result}
use Rattle.codes.specs.Meaning.{Meaning, Decoded}
use Rattle.codes.specs.declared.fault.CodeFault.{CodeFault}
use Rattle.carrier.specs.declared.fault.CollectorFault.TheVariants.{Code}
use Rattle.file.specs.Meant.{code_of, need_of}
use Rattle.file.specs.declared.fault.FileFault.{FileFault}
use Rattle.file.specs.declared.fault.FileFault.TheVariants.{Field, Collector}
use Rattle.file.specs.declared.heading.Heading.{Heading}
use Rattle.settings_carrier.specs.declared.report.Tally.{Tally}
use Rattle.settings_carrier.specs.Reports.{Tells}

-- a code's answer, as that of the file's
abbrev pub as_file : Result ℕ CodeFault → Result ℕ FileFault
as_file (Ok e) = Ok e
as_file (Err f) = Err (Collector (Code f 0))

-- what decoding with a code that means M gives
pub record DecodedWith (M : Meaning) (need : ℕ) (received marks old new scratch scratch' : List ℕ) (r : Result ℕ FileFault) : Type 0 where
  pub answer : Result ℕ CodeFault
  pub decoded : Decoded M need received marks old new scratch scratch' answer
  pub same : r ≡ as_file answer

-- decoding with the code that a heading asks for, if it names a field
abbrev pub DecodedBy : Option Meaning → (received marks old new scratch scratch' : List ℕ) → Result ℕ FileFault → Type 0
DecodedBy None received marks old new scratch scratch' r = (r ≡ Err Field) × (new ≡ old)
DecodedBy (Some M) received marks old new scratch scratch' r = DecodedWith M (need_of M) received marks old new scratch scratch' r

-- what decoding the word with the heading's code, and all the scratch that it may need, gives is told
pub record Decodes (h : Heading) (received marks old new : List ℕ) (t : Tally) (number : ℕ) : Type 0 where
  pub scratch : List ℕ
  pub scratch' : List ℕ
  pub enough : (M : Meaning) → code_of h ≡ Some M → M.fitness ≡ Ok tt → need_of M ≤ length scratch
  pub outcome : Result ℕ FileFault
  pub decoded : DecodedBy (code_of h) received marks old new scratch scratch' outcome
  pub told : Tells outcome t number
