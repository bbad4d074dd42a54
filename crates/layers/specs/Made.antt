-- What the layers mean, in plain words.
use Rattle.std.specs.Prelude.{◌≡◌, ℕ, ◌-◌, ◌<◌, ◌↔◌, List, ◌++◌, length, replicate, Ok, slice_index}
use Rattle.fields.specs.Arithmetic.{Arithmetic}
use Rattle.codes.specs.Meaning.{Meaning, Message, Sound}
use Rattle.layers.specs.Scaled.{Units}

-- N is the code B, trimmed by z
pub record Trims (z : ℕ) (B N : Meaning) : Type 0 where
  -- it is fit exactly where the code below is and z is less than its dimension
  pub fit : (N.fitness ≡ Ok tt) ↔ ((B.fitness ≡ Ok tt) × (z < B.dimension))
  pub order : N.order ≡ B.order
  pub long : N.long ≡ B.long
  pub dimension : N.dimension ≡ B.dimension - z
  pub distance : N.distance ≡ B.distance
  -- the word is that of the message with z zeros at its end
  pub word : (m : List ℕ) → N.word m ≡ B.word (m ++ replicate z 0)
  pub sound : N.fitness ≡ Ok tt → Sound N

-- N is the code B, scaled by the multipliers xs in the field F
pub record Scales (F : Arithmetic) (xs : List ℕ) (B N : Meaning) : Type 0 where
  -- it is fit exactly where the code below is, there is one multiplier for each place, the orders agree, and each multiplier is below the order and not 0
  pub fit : (N.fitness ≡ Ok tt) ↔ ((B.fitness ≡ Ok tt) × (length xs ≡ B.long) × (F.order ≡ B.order) × Units B.order xs)
  pub order : N.order ≡ B.order
  pub long : N.long ≡ B.long
  pub dimension : N.dimension ≡ B.dimension
  pub distance : N.distance ≡ B.distance
  -- number j of a word is multiplier j times number j of the word below
  pub word : N.fitness ≡ Ok tt → (m : List ℕ) → Message N m → (j : ℕ) → j < N.long → slice_index (N.word m) j ≡ F.times (slice_index xs j) (slice_index (B.word m) j)
  pub sound : N.fitness ≡ Ok tt → Sound N
