-- What receiving a file gives.
use Rattle.std.specs.Prelude.{◌≡◌, ℕ, ◌*◌, ◌<◌, ◌≤◌, ◌⊎◌, List, length, take, replicate, Some, None, Ok, Err, Option, Result}
use Rattle.codes.specs.Meaning.{Meaning}
use Rattle.carrier.specs.Places.{held_places}
use Rattle.carrier.specs.Promise.{Reading}
use Rattle.carrier.specs.declared.fault.CollectorFault.{CollectorFault}
use Rattle.file.specs.declared.fault.FileFault.{FileFault}
use Rattle.file.specs.declared.fault.FileFault.TheVariants.{TooShort, Field, Collector}
use Rattle.file.specs.declared.heading.Heading.{Heading}
use Rattle.file.specs.declared.received.Received.{Received}
use Rattle.file.specs.declared.source.Outcome.{Outcome}
use Rattle.file.specs.Deliveries.{declined, book_after, Collected}
use Rattle.file.specs.Form.{Strip}
use Rattle.file.specs.Meant.{need_of}
use Rattle.file.specs.Reads.{Taken, Declined}

-- what a collector of a heading's code makes of the strips, if the heading names a field
abbrev pub CollectedBy : Option Meaning → (D : ℕ) → List Strip → (old new scratch scratch' : List ℕ) → Result Outcome FileFault → Type 0
CollectedBy None D ss old new scratch scratch' r = r ≡ Err Field
CollectedBy (Some M) D ss old new scratch scratch' (Ok o) = Collected M (need_of M) D ss old new scratch scratch' o
CollectedBy (Some M) D ss old new scratch scratch' (Err f) = ⊥

-- a file whose strips, delivered in order to a new collector of its heading's code and depth, give this sheet
pub record Carries (file : List ℕ) (x : Received) : Type 0 where
  pub strips : List Strip
  pub taken : Taken x.heading strips file
  -- how many places of the book hold a strip
  pub kept : x.kept ≡ held_places (book_after taken.meaning x.heading.depth strips)
  -- how many of the strips are declined
  pub declined : x.declined ≡ declined taken.meaning x.heading.depth (replicate taken.meaning.long None) strips
  -- the sheet is the one within reach of the book, with its wrong count
  pub blank : List ℕ
  pub reading : Reading taken.meaning x.heading.depth (book_after taken.meaning x.heading.depth strips) blank (Ok x.wrong) (take (x.heading.depth * x.heading.k) x.sheet)

-- a file whose strips, so delivered, give no sheet
pub record CarriesNone (file : List ℕ) (fault : CollectorFault) : Type 0 where
  pub heading : Heading
  pub strips : List Strip
  pub taken : Taken heading strips file
  pub blank : List ℕ
  pub reading : Reading taken.meaning heading.depth (book_after taken.meaning heading.depth strips) blank (Err fault) blank

-- why a file that is not too long gives nothing: it is refused, or its strips give no sheet
abbrev pub Fails : List ℕ → FileFault → Type 0
Fails file f = Declined file f ⊎ ((fault : CollectorFault) × (f ≡ Collector fault) × CarriesNone file fault)

-- what receiving a file of at most 65,535 bytes gives, and a longer one
abbrev pub Receives : List ℕ → Result Received FileFault → Type 0
Receives file (Ok x) = (length file ≤ 65535) × Carries file x
Receives file (Err f) = ((65535 < length file) × (f ≡ TooShort)) ⊎ ((length file ≤ 65535) × Fails file f)
