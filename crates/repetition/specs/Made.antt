-- What a repetition code means, in plain words.
use Rattle.std.specs.Prelude.{◌≡◌, ℕ, ◌≤◌, ◌↔◌, List, replicate, Ok, slice_index}
use Rattle.codes.specs.Meaning.{Meaning, Sound}

-- a code of length n and order q whose words repeat the message's one number
pub record Repeats (q n : ℕ) (M : Meaning) : Type 0 where
  -- it is fit exactly where n is from 1 to 128 and q from 2 to 65,536
  pub fit : (M.fitness ≡ Ok tt) ↔ ((1 ≤ n) × (n ≤ 128) × (2 ≤ q) × (q ≤ 65536))
  pub order : M.order ≡ q
  pub long : M.long ≡ n
  pub dimension : M.dimension ≡ 1
  pub distance : M.distance ≡ n
  pub word : (m : List ℕ) → M.word m ≡ replicate n (slice_index m 0)
  -- words of two different messages differ in every place
  pub sound : M.fitness ≡ Ok tt → Sound M
