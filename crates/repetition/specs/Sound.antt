-- A fit repetition code keeps what a fit code promises.
use Rattle.std.specs.Prelude.{◌≡◌, ℕ, zero, suc, ◌<◌, ◌≤◌, cond, List, [], ◌∷◌, length, replicate, Ok, refl}
use Rattle.std.proofs.Common.{eqb, get_or, sym, ap, ◌∙◌, arith}
use lib.ListN.{length-replicate}
use Rattle.std.proofs.lemmas.Bool.Decides.{nat_tests}
use Rattle.fields.specs.Numbers.{Below, differ}
use Rattle.codes.specs.Meaning.{Message, Sound}
use Rattle.repetition.specs.Repeats.{repetition}

-- two different numbers, repeated, differ in every place
differ-repeat : (n x y : ℕ) → (x ≡ y → ⊥) → differ (replicate n x) (replicate n y) ≡ n
differ-repeat zero x y ne = refl
differ-repeat (suc n) x y ne = let i = differ-repeat n x y ne in let e : cond {A = ℕ} (eqb x y) 0 1 ≡ 1 = grind (arith, nat_tests) in omega arith

below-repeat : (q n x : ℕ) → x < q → Below q (replicate n x)
below-repeat q zero x h = tt
below-repeat q (suc n) x h = (h, below-repeat q n x h)

first_below : (q n : ℕ) (m : List ℕ) → Message (repetition q n) m → get_or m 0 0 < q
first_below q n [] h = let l = h.long in absurd (omega arith)
first_below q n (x ∷ xs) h = h.below.0

one_number : (m : List ℕ) → length m ≡ 1 → m ≡ get_or m 0 0 ∷ []
one_number [] e = absurd (omega arith)
one_number (x ∷ []) e = refl
one_number (x ∷ y ∷ ys) e = absurd (omega arith)

-- a fit repetition code keeps what a fit code promises
pub repetition-sound : (q n : ℕ) → (repetition q n).fitness ≡ Ok tt → Sound (repetition q n)
repetition-sound q n e = record {
  order_low = grind (arith, nat_tests);
  order_high = grind (arith, nat_tests);
  length_low = grind (arith, nat_tests);
  length_high = grind (arith, nat_tests);
  dimension_low = omega arith;
  dimension_high = grind (arith, nat_tests);
  distance_low = grind (arith, nat_tests);
  distance_high = omega arith;
  word_long = λ m h. length-replicate n (get_or m 0 0);
  word_below = λ m h. below-repeat q n (get_or m 0 0) (first_below q n m h);
  apart = λ m m' h h' ne. (let d = differ-repeat n (get_or m 0 0) (get_or m' 0 0) (λ e. ne (one_number m h.long ∙ ap (λ (x : ℕ). x ∷ []) e ∙ sym (one_number m' h'.long))) in omega arith);
}

-- it needs no scratch
pub needs_none : 0 ≤ 20000
needs_none = omega arith
