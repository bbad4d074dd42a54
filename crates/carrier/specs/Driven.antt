-- What a caller who drives a collector by its methods knows of the calls made so far.
use Rattle.std.specs.Prelude.{◌≡◌, ℕ, List, [], ◌∷◌, ◌++◌, Result}
use Rattle.codes.specs.declared.interface.Code as decoder
use Rattle.codes.specs.declared.interface.Issuer as issuer
use Rattle.carrier.specs.declared.collector.Collector.{Collector}
use Rattle.carrier.specs.declared.fault.CollectorFault.{CollectorFault}
use Rattle.carrier.specs.Book.{Call}
use Rattle.carrier.specs.Promise.{Fit, Right, Reading}
use Rattle.carrier.specs.Records.{meaning_of, records_of, book_of}

-- the collector, if it is fit, holds the book of these calls
abbrev pub Holds : {X : Type 0} → issuer.Ghosts X → Collector X → List Call → Type 0
Holds i s calls = Fit (meaning_of i s) s.depth → records_of i s ≡ book_of (meaning_of i s) s.depth calls

-- whatever calls have led to the collector s, those and one more have led to t
abbrev pub Follows : {X : Type 0} → issuer.Ghosts X → (s t : Collector X) → Call → Type 0
Follows i s t c = (calls : List Call) → Holds i s calls → Holds i t (calls ++ (c ∷ []))

-- a read with buffers of the right lengths answers for the book of the calls that have led to the collector
abbrev pub Reads : {X : Type 0} → issuer.Ghosts X → decoder.Ghosts X → Collector X → (old new scratch : List ℕ) → Result ℕ CollectorFault → Type 0
Reads i k s old new scratch r =
    Right (meaning_of i s) (k.need s.code) s.depth old scratch
    → (calls : List Call) → Holds i s calls → Reading (meaning_of i s) s.depth (book_of (meaning_of i s) s.depth calls) old r new
