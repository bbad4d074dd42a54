-- What a run promises: a new collector of any code and depth, and then any list of calls, each answered in turn.
use Rattle.std.specs.Prelude.{◌≡◌, ℕ, zero, suc, ◌+◌, ◌-◌, ◌*◌, ◌<◌, ◌≤◌, Bool, false, cond, not, ◌≢◌, ◌↔◌, List, [], ◌∷◌, length, get_or, take, drop, Some, None, Ok, Err, Option, Result, ◌==◌, slice_index, slice_index_or}
use Rattle.fields.specs.Numbers.{Below}
use Rattle.codes.specs.Meaning.{Meaning, Message}
use Rattle.codes.specs.declared.fault.CodeFault.TheVariants.{Reach}
use Rattle.carrier.specs.declared.fault.CollectorFault.{CollectorFault}
use Rattle.carrier.specs.declared.fault.CollectorFault.TheVariants.{Code}
use Rattle.carrier.specs.Book.{Book, Call, deliver, strike, read, vacant}
use Rattle.carrier.specs.Checks.{fit_check, deliver_check, strike_check, read_check}
use Rattle.carrier.specs.Faults.{number, row as row_of}
use Rattle.carrier.specs.Kept.{BookKeeps}
use Rattle.carrier.specs.Records.{book_of}
use Rattle.carrier.specs.Replies.{Reply, delivered, struck, sheet, refused}
use Rattle.carrier.specs.Sheets.{row, InReach, Within}

-- x stands at place i of the list, counted from 0
abbrev pub At : {X : Type 0} → ℕ → List X → X → Type 0
At i [] x = ⊥
At zero (y ∷ ys) x = y ≡ x
At (suc i) (y ∷ ys) x = At i ys x

-- how many numbers below n pass the test
abbrev pub count : ℕ → (ℕ → Bool) → ℕ
count zero test = 0
count (suc n) test = count n test + cond (test n) 1 0

-- how many pairs of a number below D and a number below n pass the test
abbrev pub count_pairs : ℕ → ℕ → (ℕ → ℕ → Bool) → ℕ
count_pairs zero n test = 0
count_pairs (suc D) n test = count_pairs D n test + count n (test D)

-- the book that call i finds: it follows from n, D, q and the arguments of the calls before call i
abbrev pub book_at : Meaning → ℕ → List Call → ℕ → Book
book_at m D calls i = book_of m D (take i calls)

-- row i has a message within reach
abbrev pub Reachable : Meaning → Book → ℕ → Type 0
Reachable m b i = (message : List ℕ) × InReach m b i message

abbrev pub EachRow : Meaning → ℕ → Book → Type 0
EachRow m D b = (i : ℕ) → i < D → Reachable m b i

-- the first row with no message within reach
pub record FirstLost (m : Meaning) (D : ℕ) (b : Book) (i : ℕ) : Type 0 where
  pub inside : i < D
  pub lost : Reachable m b i → ⊥
  pub before : (j : ℕ) → j < i → Reachable m b j

-- a strip is held, and its number i is not w
abbrev pub differs : Option (List ℕ) → ℕ → ℕ → Bool
differs None i w = false
differs (Some strip) i w = not (slice_index strip i == w)

-- how many kept numbers of row i differ from the message's word
abbrev pub wrong_in_row : Meaning → Book → ℕ → List ℕ → ℕ
wrong_in_row m b i message = count m.long (λ j. differs (slice_index_or b j None) i (slice_index (m.word message) j))

-- how many places hold no strip
abbrev pub missing_strips : Meaning → Book → ℕ
missing_strips m b = count m.long (λ j. vacant (slice_index_or b j None))

-- k numbers below q with 2 × wrong numbers + missing strips at most d − 1
pub record CountedInReach (m : Meaning) (b : Book) (i : ℕ) (message : List ℕ) : Type 0 where
  pub numbers : Message m message
  pub near : 2 * wrong_in_row m b i message + missing_strips m b ≤ m.distance - 1

-- how many kept numbers, over all rows i and places j, differ from entry j of the word of the sheet's row i
abbrev pub wrong_numbers : Meaning → ℕ → Book → List ℕ → ℕ
wrong_numbers m D b numbers =
    count_pairs D m.long (λ i j. differs (slice_index_or b j None) i (slice_index (m.word (row m.dimension i numbers)) j))

-- the code is fit, and the depth is from 1 to 16
pub record Fit (m : Meaning) (D : ℕ) : Type 0 where
  pub fits : m.fitness ≡ Ok tt
  pub shallow : 1 ≤ D
  pub deep : D ≤ 16

-- the book takes a strip: the place is below n and empty, and the strip has D numbers below q
pub record Takes (m : Meaning) (D : ℕ) (b : Book) (place : ℕ) (strip : List ℕ) : Type 0 where
  pub fit : Fit m D
  pub inside : place < m.long
  pub empty : get_or b place None ≡ None
  pub long : length strip ≡ D
  pub below : Below m.order strip

-- the book gives up a strip: the place is below n and holds one
pub record Gives (m : Meaning) (D : ℕ) (b : Book) (place : ℕ) : Type 0 where
  pub fit : Fit m D
  pub inside : place < m.long
  pub strip : List ℕ
  pub holds : get_or b place None ≡ Some strip

-- a read's two buffers have the right lengths
pub record Right (m : Meaning) (need D : ℕ) (page scratch : List ℕ) : Type 0 where
  pub fit : Fit m D
  pub page_long : length page ≡ D * m.dimension
  pub scratch_long : need ≤ length scratch

-- What such a read answers on the book b: it returns r, and its sheet buffer, old before, holds numbers after it.
pub record Reading (m : Meaning) (D : ℕ) (b : Book) (old : List ℕ) (r : Result ℕ CollectorFault) (numbers : List ℕ) : Type 0 where
  -- It returns a sheet exactly when each row has a message within reach,
  pub returned : ((e : ℕ) × (r ≡ Ok e)) ↔ EachRow m D b
  -- and otherwise 13, with the first row that has none,
  pub otherwise : (EachRow m D b → ⊥) → (f : CollectorFault) × (r ≡ Err f) × (number f ≡ 13) × (f ≡ Code Reach (row_of f)) × FirstLost m D b (row_of f)
  -- and the sheet buffer as it was.
  pub unchanged : (f : CollectorFault) → r ≡ Err f → numbers ≡ old
  -- The sheet returned is within reach,
  pub within : (e : ℕ) → r ≡ Ok e → Within m D b numbers
  -- and every other sheet isn't.
  pub alone : (e : ℕ) → r ≡ Ok e → (other : List ℕ) → other ≢ numbers → Within m D b other → ⊥
  -- The wrong count returned is the number of kept numbers that differ from the sheet's words.
  pub counted : (e : ℕ) → r ≡ Ok e → e ≡ wrong_numbers m D b numbers

-- A read with buffers of the right lengths is answered at place i: the scratch stays as long as it was, and past the need as it was.
pub record ReadAt (m : Meaning) (need D : ℕ) (b : Book) (page scratch : List ℕ) (i : ℕ) (answers : List Reply) : Type 0 where
  pub result : Result ℕ CollectorFault
  pub numbers : List ℕ
  pub scratch' : List ℕ
  pub answer : At i answers (sheet result numbers scratch')
  pub reading : Reading m D b page result numbers
  pub as_long : length scratch' ≡ length scratch
  pub rest : drop need scratch' ≡ drop need scratch

-- What the answers of a run say of its calls, for a code that means m and needs so much scratch, and a depth D.
pub record Promise (m : Meaning) (need D : ℕ) (calls : List Call) (answers : List Reply) : Type 0 where
  -- There are as many answers as calls.
  pub as_many : length answers ≡ length calls
  -- At each moment the book holds just the strips that were delivered to a place empty then, fit it, and were not struck since.
  pub kept : (i : ℕ) → BookKeeps m.long D m.order (take i calls)
  -- Within reach, in the book's words: twice the row's wrong numbers plus the missing strips is at most the distance less 1.
  pub reach : m.fitness ≡ Ok tt → (i j : ℕ) (message : List ℕ) → InReach m (book_at m D calls i) j message ↔ CountedInReach m (book_at m D calls i) j message
  -- A read with buffers of the right lengths answers for the book that it finds.
  pub reads : (i : ℕ) (page scratch : List ℕ) → At i calls (read page scratch) → Right m need D page scratch → ReadAt m need D (book_at m D calls i) page scratch i answers
  -- Every other read is refused by the first check that fails, with both buffers as they were.
  pub declined : (i : ℕ) (page scratch : List ℕ) → At i calls (read page scratch) → (Right m need D page scratch → ⊥) → (f : CollectorFault) ×
      (read_check m need D (length page) (length scratch) ≡ Err f) × At i answers (sheet (Err f) page scratch)
  -- A delivery is accepted, or refused by the first check that fails.
  pub delivers : (i place : ℕ) (strip : List ℕ) → At i calls (deliver place strip) →
      At i answers (delivered place strip (deliver_check m D (book_at m D calls i) place strip))
  -- It is accepted exactly when the code and the depth are fit and the book takes the strip.
  pub accepted : (i place : ℕ) (strip : List ℕ) → (deliver_check m D (book_at m D calls i) place strip ≡ Ok tt) ↔ Takes m D (book_at m D calls i) place strip
  -- A strike is accepted, or refused by the first check that fails.
  pub strikes : (i place : ℕ) → At i calls (strike place) →
      At i answers (struck place (strike_check m D (book_at m D calls i) place))
  -- It is accepted exactly when the code and the depth are fit and the place holds a strip.
  pub removed : (i place : ℕ) → (strike_check m D (book_at m D calls i) place ≡ Ok tt) ↔ Gives m D (book_at m D calls i) place
  -- Where the code or the depth is not fit, each call is refused with that fault.
  pub unfit : (f : CollectorFault) → fit_check m D ≡ Err f → (i : ℕ) (c : Call) → At i calls c → At i answers (refused f c)
