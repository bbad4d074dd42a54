-- The form of a file: bytes that nobody looks at, the strips, and eight bytes that say what they are.
use Rattle.std.specs.Prelude.{◌≡◌, ℕ, zero, suc, ◌+◌, ◌*◌, ◌/◌, ◌%◌, List, [], ◌∷◌, ◌++◌, length, drop, slice_index}
use Rattle.std.specs.List.{flat_map, AllByRecursion}
use Rattle.file.specs.declared.heading.Heading.{Heading}

-- a strip: its place, and one number for each row
pub record Strip : Type 0 where
  pub place : ℕ
  pub numbers : List ℕ

-- a number in two bytes, the high byte first
abbrev pub two : ℕ → List ℕ
two x = x / 256 ∷ x % 256 ∷ []

-- one byte of place, and then the numbers
abbrev pub strip_bytes : Strip → List ℕ
strip_bytes s = s.place ∷ flat_map two s.numbers

abbrev pub strips_bytes : List Strip → List ℕ
strips_bytes ss = flat_map strip_bytes ss

-- the last eight bytes: the heading, and the number of bytes of all strips
abbrev pub trailer : Heading → ℕ → List ℕ
trailer h back =
    h.kind ∷ h.modulus / 256 ∷ h.modulus % 256 ∷ h.n ∷ h.k ∷ h.depth ∷ back / 256 ∷ back % 256 ∷ []

-- the file has this heading and these strips
pub record Form (h : Heading) (strips : List Strip) (file : List ℕ) : Type 0 where
  -- the bytes before the strips, which say nothing
  pub ignored : List ℕ
  -- each strip has one number for each row
  pub deep : AllByRecursion (λ s. length s.numbers ≡ h.depth) strips
  pub bytes : file ≡ ignored ++ (strips_bytes strips ++ trailer h (length (strips_bytes strips)))

-- D numbers from the front of these bytes
abbrev pub numbers_in : ℕ → List ℕ → List ℕ
numbers_in zero bytes = []
numbers_in (suc D) bytes = (256 * slice_index bytes 0 + slice_index bytes 1) ∷ numbers_in D (drop 2 bytes)

abbrev pub strip : ℕ → List ℕ → Strip
strip place numbers = record { place = place; numbers = numbers }

-- a strip of D numbers from the front of these bytes
abbrev pub strip_in : ℕ → List ℕ → Strip
strip_in D bytes = strip (slice_index bytes 0) (numbers_in D (drop 1 bytes))

-- so many strips of D numbers from the front of these bytes
abbrev pub strips_in : ℕ → ℕ → List ℕ → List Strip
strips_in D zero bytes = []
strips_in D (suc c) bytes = strip_in D bytes ∷ strips_in D c (drop (1 + 2 * D) bytes)
