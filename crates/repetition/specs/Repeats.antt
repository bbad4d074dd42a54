-- What the repetition code means, and which number its decoding looks for.
use Rattle.std.specs.Prelude.{◌≡◌, ℕ, ◌+◌, ◌*◌, ◌<◌, ◌&&◌, List, length, replicate, Ok, Err, Result, nat_le, slice_index}
use Rattle.fields.specs.Checks.{unless}
use Rattle.codes.specs.Meaning.{Meaning}
use Rattle.codes.specs.Words.{wrong, missing}
use Rattle.codes.specs.declared.fault.CodeFault.{CodeFault}
use Rattle.codes.specs.declared.fault.CodeFault.TheVariants.{Reach}
use Rattle.codes.specs.declared.fault.FitnessFault.TheVariants.{Length, Order}

-- the repetition code of n places and numbers below q: its words are one number n times, so two of them differ everywhere
abbrev pub repetition : ℕ → ℕ → Meaning
repetition q n = record {
  fitness = unless (nat_le 1 n && nat_le n 128) Length (unless (nat_le 2 q && nat_le q 65536) Order (Ok tt));
  order = q;
  long = n;
  dimension = 1;
  distance = n;
  word = λ m. replicate n (slice_index m 0);
}

-- a number is near what was received: twice its wrong places and the missing ones are fewer than all places
abbrev pub Near : List ℕ → List ℕ → ℕ → Type 0
Near received marks x = 2 * wrong received marks (replicate (length received) x) + missing marks < length received

-- a number below q that is near, with its wrong count
pub record Nearby (q : ℕ) (received marks : List ℕ) (found : ℕ × ℕ) : Type 0 where
  pub near : Near received marks found.0
  pub below : found.0 < q
  pub counted : found.1 ≡ wrong received marks (replicate (length received) found.0)

-- no number is near
pub record Nowhere (received marks : List ℕ) (f : CodeFault) : Type 0 where
  pub fault : f ≡ Reach
  pub none : (x : ℕ) → Near received marks x → ⊥

-- what the search for a near number answers
abbrev pub Nearest : ℕ → List ℕ → List ℕ → Result (ℕ × ℕ) CodeFault → Type 0
Nearest q received marks (Ok found) = Nearby q received marks found
Nearest q received marks (Err f) = Nowhere received marks f
