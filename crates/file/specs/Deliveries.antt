-- Strips delivered one after another.
use Rattle.std.specs.Prelude.{◌≡◌, ℕ, ◌+◌, List, [], ◌∷◌, ◌++◌, map, length, drop, replicate, None, Ok, Err}
use Rattle.fields.specs.Checks.{Check}
use Rattle.codes.specs.Meaning.{Meaning}
use Rattle.codes.specs.declared.interface.Issuer as issuer
use Rattle.carrier.specs.Book.{Book, Call, deliver, after}
use Rattle.carrier.specs.Checks.{deliver_check, read_check}
use Rattle.carrier.specs.Driven.{Holds}
use Rattle.carrier.specs.Places.{held_places}
use Rattle.carrier.specs.Promise.{Fit, Right, Reading}
use Rattle.carrier.specs.Records.{book_of}
use Rattle.carrier.specs.declared.collector.Collector.{Collector}
use Rattle.carrier.specs.declared.fault.CollectorFault.{CollectorFault}
use Rattle.file.specs.declared.source.Outcome.{Outcome}
use Rattle.file.specs.Form.{Strip}

-- the call that brings a strip
abbrev pub brought : Strip → Call
brought s = deliver s.place s.numbers

-- 1 for a refusal
abbrev pub refused : Check CollectorFault → ℕ
refused (Ok u) = 0
refused (Err f) = 1

-- how many of the strips, delivered one after another onto the book b, are declined
abbrev pub declined : Meaning → ℕ → Book → List Strip → ℕ
declined M D b [] = 0
declined M D b (s ∷ ss) =
    refused (deliver_check M D b s.place s.numbers) + declined M D (after M.long D M.order b (brought s)) ss

-- the book of a new collector to which the strips were delivered
abbrev pub book_after : Meaning → ℕ → List Strip → Book
book_after M D ss = book_of M D (map brought ss)

-- whatever calls have led to the collector s, those and the deliveries of the strips have led to t
abbrev pub Brings : {X : Type 0} → issuer.Ghosts X → (s t : Collector X) → List Strip → Type 0
Brings i s t ss = (calls : List Call) → Holds i s calls → Holds i t (calls ++ map brought ss)

-- what a new collector of a code that means M, needs so much scratch, and has depth D, holds and reads after the strips were delivered to it
pub record Collected (M : Meaning) (need D : ℕ) (ss : List Strip) (old new scratch scratch' : List ℕ) (r : Outcome) : Type 0 where
  -- how many places of the book hold a strip
  pub kept : Fit M D → r.kept ≡ held_places (book_after M D ss)
  pub declined : r.declined ≡ declined M D (replicate M.long None) ss
  -- with buffers of the right lengths, what the read answers for the book
  pub reading : Right M need D old scratch → Reading M D (book_after M D ss) old r.wrong new
  -- with others, the first check of the read that fails
  pub refused : (f : CollectorFault) → read_check M need D (length old) (length scratch) ≡ Err f → (r.wrong ≡ Err f) × (new ≡ old) × (scratch' ≡ scratch)
  -- the scratch past the need
  pub rest : drop need scratch' ≡ drop need scratch
