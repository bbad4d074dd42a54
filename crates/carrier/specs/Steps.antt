-- A run step by step, as a means of proof: what each answer says of the book that the calls before it make. What a reader is to believe of runs is in `Promise`.
use Rattle.std.specs.Prelude.{◌≡◌, ℕ, ◌<◌, List, [], ◌∷◌, length, drop, Ok, Err, Result}
use Rattle.fields.specs.Checks.{Check}
use Rattle.codes.specs.Meaning.{Meaning}
use Rattle.codes.specs.declared.fault.CodeFault.TheVariants.{Reach}
use Rattle.carrier.specs.declared.fault.CollectorFault.{CollectorFault}
use Rattle.carrier.specs.declared.fault.CollectorFault.TheVariants.{Code}
use Rattle.carrier.specs.Book.{Book, Call, deliver, strike, read, after}
use Rattle.carrier.specs.Checks.{deliver_check, strike_check, read_check}
use Rattle.carrier.specs.Replies.{Reply, delivered, struck, sheet, unanswered}
use Rattle.carrier.specs.Sheets.{InReach, Within, wrongs}

-- a read with buffers of the right lengths: the one sheet within reach with its wrong count, or 13 at the first row with no message within reach
abbrev pub Told : Meaning → ℕ → Book → List ℕ → List ℕ → Result ℕ CollectorFault → Type 0
Told m D b old new (Ok e) =
    Within m D b new × ((other : List ℕ) → Within m D b other → other ≡ new) × (e ≡ wrongs m b new D)
Told m D b old new (Err f) =
    (i : ℕ) × (i < D) × (f ≡ Code Reach i)
    × ((x : List ℕ) → InReach m b i x → ⊥)
    × ((j : ℕ) → j < i → (x : List ℕ) × InReach m b j x)
    × (new ≡ old)

abbrev pub Checked : Check CollectorFault → Meaning → (need D : ℕ) → Book → (old new scratch scratch' : List ℕ) → Result ℕ CollectorFault → Type 0
Checked (Ok u) m need D b old new scratch scratch' r = Told m D b old new r × (drop need scratch' ≡ drop need scratch)
Checked (Err f) m need D b old new scratch scratch' r = (r ≡ Err f) × (new ≡ old) × (scratch' ≡ scratch)

-- what an answer says of the book before its call
abbrev pub Answered : Meaning → (need D : ℕ) → Book → Call → Reply → Type 0
Answered m need D b (deliver place strip) (delivered p s r) = (p ≡ place) × (s ≡ strip) × (r ≡ deliver_check m D b place strip)
Answered m need D b (deliver place strip) (struck p r) = ⊥
Answered m need D b (deliver place strip) (sheet r new scratch') = ⊥
Answered m need D b (deliver place strip) unanswered = ⊥
Answered m need D b (strike place) (delivered p s r) = ⊥
Answered m need D b (strike place) (struck p r) = (p ≡ place) × (r ≡ strike_check m D b place)
Answered m need D b (strike place) (sheet r new scratch') = ⊥
Answered m need D b (strike place) unanswered = ⊥
Answered m need D b (read old scratch) (delivered p s r) = ⊥
Answered m need D b (read old scratch) (struck p r) = ⊥
Answered m need D b (read old scratch) (sheet r new scratch') =
    Checked (read_check m need D (length old) (length scratch)) m need D b old new scratch scratch' r × (length scratch' ≡ length scratch)
Answered m need D b (read old scratch) unanswered = ⊥

-- each answer, by the book that the calls before it make
abbrev pub Run : Meaning → (need D : ℕ) → Book → List Call → List Reply → Type 0
Run m need D b [] [] = Unit {0}
Run m need D b [] (a ∷ rest) = ⊥
Run m need D b (c ∷ cs) [] = ⊥
Run m need D b (c ∷ cs) (a ∷ rest) = Answered m need D b c a × Run m need D (after m.long D m.order b c) cs rest
