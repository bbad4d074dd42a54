-- What a collector holds, as a book, and what its calls answer.
use Rattle.std.specs.Prelude.{◌≡◌, ℕ, List, [], ◌∷◌, map, length, take, Some, None, Option, Result, slice_set}
use Rattle.fields.specs.Numbers.{Below}
use Rattle.fields.specs.Checks.{Check}
use Rattle.codes.specs.Meaning.{Meaning}
use Rattle.codes.specs.declared.interface.Code as decoder
use Rattle.codes.specs.declared.interface.Issuer as issuer
use Rattle.carrier.specs.declared.collector.Collector.{Collector}
use Rattle.carrier.specs.declared.fault.CollectorFault.{CollectorFault}
use Rattle.carrier.specs.Book.{Book, Call, book}
use Rattle.carrier.specs.Checks.{fit_check, deliver_check, strike_check, read_check, entered}
use Rattle.carrier.specs.Sheets.{Done}

-- a strip of a table, which has room for 16 numbers, to the depth D
abbrev pub held : ℕ → Option (List ℕ) → Option (List ℕ)
held D None = None
held D (Some strip) = Some (take D strip)

-- the first n places of a table, to the depth D
abbrev pub records : ℕ → ℕ → List (Option (List ℕ)) → Book
records n D strips = map (held D) (take n strips)

-- each strip has D numbers below q
abbrev pub BookBelow : ℕ → ℕ → Book → Type 0
BookBelow q D [] = Unit {0}
BookBelow q D (None ∷ b) = BookBelow q D b
BookBelow q D (Some strip ∷ b) = (length strip ≡ D) × Below q strip × BookBelow q D b

-- the book of a run of calls on a code and a depth
abbrev pub book_of : Meaning → ℕ → List Call → Book
book_of m D calls = book m.long D m.order calls

module _ {X : Type 0} (i : issuer.Ghosts X) (s : Collector X) where
  -- what the collector's code means
  abbrev pub meaning_of : Meaning
  meaning_of = i.meaning s.code

  -- what the collector holds
  abbrev pub records_of : Book
  records_of = records meaning_of.long s.depth s.table.strips

  abbrev pub fitness_of : Check CollectorFault
  fitness_of = fit_check meaning_of s.depth

  abbrev pub deliver_answer : ℕ → List ℕ → Check CollectorFault
  deliver_answer place strip = deliver_check meaning_of s.depth records_of place strip

  abbrev pub strike_answer : ℕ → Check CollectorFault
  strike_answer place = strike_check meaning_of s.depth records_of place

-- the code and the depth stay, and the records are these
pub record Left {X : Type 0} (i : issuer.Ghosts X) (s t : Collector X) (b : Book) : Type 0 where
  pub code : t.code ≡ s.code
  pub depth : t.depth ≡ s.depth
  pub records : records_of i t ≡ b

-- a delivery changes the record of its place where it is accepted
abbrev pub Delivered : {X : Type 0} → issuer.Ghosts X → (s t : Collector X) → ℕ → List ℕ → Check CollectorFault → Type 0
Delivered i s t place strip r = Left i s t (entered r (slice_set (records_of i s) place (Some strip)) (records_of i s))

-- a strike empties the record of its place where it is accepted
abbrev pub Struck : {X : Type 0} → issuer.Ghosts X → (s t : Collector X) → ℕ → Check CollectorFault → Type 0
Struck i s t place r = Left i s t (entered r (slice_set (records_of i s) place None) (records_of i s))

module _ {X : Type 0} (i : issuer.Ghosts X) (k : decoder.Ghosts X) (s : Collector X) where
  -- the checks of a read with buffers of these lengths
  abbrev pub read_answer : ℕ → ℕ → Check CollectorFault
  read_answer asked lent = read_check (meaning_of i s) (k.need s.code) s.depth asked lent

  -- what a read does to its sheet buffer and its scratch
  abbrev pub Read : (old new scratch scratch' : List ℕ) → Result ℕ CollectorFault → Type 0
  Read old new scratch scratch' r =
      Done (read_answer (length old) (length scratch)) (meaning_of i s) (k.need s.code) s.depth (records_of i s) old new scratch scratch' r
