-- Sheets: what a book says of each row, and which sheets are within reach.
use Rattle.std.specs.Prelude.{◌≡◌, ℕ, zero, suc, ◌+◌, ◌*◌, ◌<◌, ◌⊎◌, List, map, length, take, drop, Some, None, Ok, Err, Option, Result, slice_index}
use Rattle.fields.specs.Checks.{Check}
use Rattle.codes.specs.Checks.{unmarked_check}
use Rattle.codes.specs.Meaning.{Meaning, Reached}
use Rattle.codes.specs.Words.{wrong}
use Rattle.codes.specs.declared.fault.CodeFault.{CodeFault}
use Rattle.codes.specs.declared.fault.CodeFault.TheVariants.{Reach}
use Rattle.carrier.specs.declared.fault.CollectorFault.{CollectorFault}
use Rattle.carrier.specs.declared.fault.CollectorFault.TheVariants.{Code}
use Rattle.carrier.specs.declared.fault.RowFault.{RowFault}
use Rattle.carrier.specs.Book.{Book}

-- number i of a strip, and 0 where there is none
abbrev pub entry : ℕ → Option (List ℕ) → ℕ
entry i None = 0
entry i (Some strip) = slice_index strip i

-- a place that holds nothing is marked
abbrev pub mark : Option (List ℕ) → ℕ
mark None = 1
mark (Some strip) = 0

-- the numbers received for row i
abbrev pub received : ℕ → Book → List ℕ
received i b = map (entry i) b

abbrev pub marks : Book → List ℕ
marks b = map mark b

-- row i of a sheet with rows of k numbers
abbrev pub row : ℕ → ℕ → List ℕ → List ℕ
row k i sheet = take k (drop (i * k) sheet)

-- a message within reach of row i of the book
abbrev pub InReach : Meaning → Book → ℕ → List ℕ → Type 0
InReach m b i message = Reached m (received i b) (marks b) message

-- a sheet within reach: D rows, each within reach
pub record Within (m : Meaning) (D : ℕ) (b : Book) (sheet : List ℕ) : Type 0 where
  pub long : length sheet ≡ D * m.dimension
  pub near : (i : ℕ) → i < D → InReach m b i (row m.dimension i sheet)

-- in the first rows of a sheet, the number of kept numbers that differ from the rows' words
abbrev pub wrongs : Meaning → Book → List ℕ → ℕ → ℕ
wrongs m b sheet zero = 0
wrongs m b sheet (suc i) = wrongs m b sheet i + wrong (received i b) (marks b) (m.word (row m.dimension i sheet))

-- why row i is refused: a number that is kept is not below q, which no run meets, or no message is within reach
abbrev pub Lost : Meaning → Book → ℕ → CodeFault → Type 0
Lost m b i f =
    (unmarked_check m.order 0 (received i b) (marks b) ≡ Err f)
    ⊎ ((f ≡ Reach) × ((message : List ℕ) → InReach m b i message → ⊥))

-- a read that is refused after its checks: the fault of the first row that is refused
pub record Stopped (m : Meaning) (D : ℕ) (b : Book) (f : CollectorFault) : Type 0 where
  pub at : ℕ
  pub inside : at < D
  pub why : CodeFault
  pub fault : f ≡ Code why at
  pub lost : Lost m b at why
  pub before : (i : ℕ) → i < at → (message : List ℕ) × InReach m b i message

-- what decoding row i gives
abbrev pub Row : Meaning → Book → ℕ → (new : List ℕ) → Result ℕ RowFault → Type 0
Row m b i new (Ok e) = InReach m b i new × (e ≡ wrong (received i b) (marks b) (m.word new))
Row m b i new (Err f) = (f.row ≡ i) × Lost m b i f.fault

-- what decoding all rows gives
abbrev pub Rows : Meaning → ℕ → Book → (new : List ℕ) → Result ℕ RowFault → Type 0
Rows m D b new (Ok e) = Within m D b new × (e ≡ wrongs m b new D)
Rows m D b new (Err f) = Stopped m D b (Code f.fault f.row)

-- what a read gives where its checks pass: the sheet within reach with its wrong count, or the first refused row and the buffer as it was
abbrev pub Found : Meaning → ℕ → Book → (old new : List ℕ) → Result ℕ CollectorFault → Type 0
Found m D b old new (Ok e) = Within m D b new × (e ≡ wrongs m b new D)
Found m D b old new (Err f) = Stopped m D b f × (new ≡ old)

-- what a read does, by the outcome of its checks, to its sheet buffer and its scratch
abbrev pub Done : Check CollectorFault → Meaning → (need D : ℕ) → Book → (old new scratch scratch' : List ℕ) → Result ℕ CollectorFault → Type 0
Done (Ok u) m need D b old new scratch scratch' r = Found m D b old new r × (drop need scratch' ≡ drop need scratch)
Done (Err f) m need D b old new scratch scratch' r = (r ≡ Err f) × (new ≡ old) × (scratch' ≡ scratch)
