-- What an evaluation code means: a message is a polynomial's coefficients, and its word the values at the points.
use Rattle.std.specs.Prelude.{◌≡◌, ℕ, ◌+◌, ◌-◌, ◌<◌, ◌≤◌, not, ◌&&◌, ◌↔◌, List, [], ◌∷◌, ◌++◌, length, Ok, ◌==◌, nat_le, nat_lt, slice_index}
use Rattle.fields.specs.Arithmetic.{Arithmetic, total}
use Rattle.fields.specs.Numbers.{Below, Distinct, among}
use Rattle.linear.specs.Polynomials.{value, word}
use Rattle.fields.specs.Checks.{Check, unless, and_then}
use Rattle.codes.specs.Meaning.{Meaning, Sound}
use Rattle.codes.specs.declared.fault.FitnessFault.{FitnessFault}
use Rattle.codes.specs.declared.fault.FitnessFault.TheVariants.{Length, Dimension, Point}

-- n is from 1 to 128 and there are as many points, and k is from 1 to n
abbrev pub shape_check : (n k count : ℕ) → Check FitnessFault
shape_check n k count =
    unless (nat_le 1 n && nat_le n 128 && count == n) Length
    (unless (nat_le 1 k && nat_le k n) Dimension (Ok tt))

-- each point is below q and not among those before it, or the place of the first that is not; the list's first place is i
abbrev pub point_check : ℕ → (before : List ℕ) → ℕ → List ℕ → Check FitnessFault
point_check q before i [] = Ok tt
point_check q before i (x ∷ xs) = unless (nat_lt x q && not (among x before)) (Point i) (point_check q (before ++ x ∷ []) (i + 1) xs)

abbrev pub evaluation_fit : (q n k : ℕ) → List ℕ → Check FitnessFault
evaluation_fit q n k points = and_then (shape_check n k (length points)) (point_check q [] 0 points)

-- the evaluation code of k coefficients at n points
abbrev pub evaluation : Arithmetic → (n k : ℕ) → List ℕ → Meaning
evaluation F n k points = record {
  fitness = evaluation_fit F.order n k points;
  order = F.order;
  long = n;
  dimension = k;
  distance = n - k + 1;
  word = word (total F) points;
}

-- what a fit evaluation code is made from: 1 to 128 distinct points below q, and 1 to n message numbers
pub record Proper (q n k : ℕ) (points : List ℕ) : Type 0 where
  pub some : 1 ≤ n
  pub few : n ≤ 128
  pub counted : length points ≡ n
  pub low : 1 ≤ k
  pub high : k ≤ n
  pub below : Below q points
  pub distinct : Distinct points

-- M is the evaluation code of k coefficients at these n points, in the field F
pub record Evaluates (F : Arithmetic) (n k : ℕ) (points : List ℕ) (M : Meaning) : Type 0 where
  -- it is fit exactly where it is made from what it should be
  pub fit : (M.fitness ≡ Ok tt) ↔ Proper F.order n k points
  pub order : M.order ≡ F.order
  pub long : M.long ≡ n
  pub dimension : M.dimension ≡ k
  pub distance : M.distance ≡ n - k + 1
  -- number j of a word is the value at point j of the polynomial with the message's coefficients
  pub entry : (m : List ℕ) (j : ℕ) → j < length points → slice_index (M.word m) j ≡ value (total F) m (slice_index points j)
  pub sound : M.fitness ≡ Ok tt → Sound M
