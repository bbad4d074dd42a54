-- A fit scaled code keeps what a fit code promises.
use Rattle.std.specs.Prelude.{◌≡◌, ℕ, ◌+◌, ◌<◌, ◌≤◌, List, [], ◌∷◌, length, Ok, Err, refl}
use Rattle.std.proofs.Common.{eqb, sym, ◌∙◌, subst, arith}
use Rattle.std.proofs.lemmas.Bool.Decides.{nat_tests}
use Rattle.fields.proofs.Total.{total-laws}
use Rattle.fields.specs.Arithmetic.{Arithmetic, total}
use Rattle.fields.specs.Laws.{Sizes, Sums, Products, Inverses, Laws}
use Rattle.fields.specs.Numbers.{Below}
use Rattle.fields.specs.Checks.{Check, unless, and_then}
use Rattle.codes.specs.Meaning.{Meaning, Message, Sound}
use Rattle.codes.specs.declared.fault.FitnessFault.{FitnessFault}
use Rattle.codes.specs.declared.fault.FitnessFault.TheVariants.{Length, FieldSize}
use Rattle.layers.specs.Products.{length-products, products-below, differ-products}
use Rattle.layers.specs.Scaled.{multiplier_check, products, Units, scaled}

-- the four laws of a field, together
pub lawful : {F : Arithmetic} → Sizes F → Sums F → Products F → Inverses F → Laws F
lawful a b c d = record { sizes = a; sums = b; products = c; inverses = d }

passed_units : (q i : ℕ) (xs : List ℕ) → multiplier_check q i xs ≡ Ok tt → Units q xs
passed_units q i [] e = tt
passed_units q i (x ∷ xs) e =
    let a : 1 ≤ x = grind (arith, nat_tests) in
    let b : x < q = grind (arith, nat_tests) in
    let t : multiplier_check q (i + 1) xs ≡ Ok tt = grind (arith, nat_tests) in
    ((a, b), passed_units q (i + 1) xs t)

split_fit : (f : Check FitnessFault) (count n order q : ℕ) (xs : List ℕ)
    → and_then f (unless (eqb count n) Length (unless (eqb order q) FieldSize (multiplier_check q 0 xs))) ≡ Ok tt
    → (f ≡ Ok tt) × (count ≡ n) × (order ≡ q) × (multiplier_check q 0 xs ≡ Ok tt)
split_fit (Ok u) count n order q xs e = (refl, grind (arith, nat_tests), grind (arith, nat_tests), grind (arith, nat_tests))
split_fit (Err f) count n order q xs e = let z : ◌≡◌ {A = ℕ} 0 1 = cc in absurd (omega arith)

-- what a fit scaled code is made from
pub record Scaling (F : Arithmetic) (xs : List ℕ) (M : Meaning) : Type 0 where
  pub fits : M.fitness ≡ Ok tt
  pub counted : length xs ≡ M.long
  pub order : F.order ≡ M.order
  pub units : Units M.order xs

-- a fit scaled code passed all its checks
pub scaling : (F : Arithmetic) (xs : List ℕ) (M : Meaning) → (scaled F xs M).fitness ≡ Ok tt → Scaling F xs M
scaling F xs M e =
    let p = split_fit M.fitness (length xs) M.long F.order M.order xs e in
    record { fits = p.0; counted = p.1; order = p.2; units = passed_units M.order 0 xs p.3 }

module _ (F : Arithmetic) (L : Laws F) (xs : List ℕ) (M : Meaning) (s : Sound M) (p : Scaling F xs M) where
  pub units : Units F.order xs
  units = subst (λ (q : ℕ). Units q xs) (sym p.order) p.units

  below : (m : List ℕ) → Message (scaled F xs M) m → Message M m
  below m h = record { long = h.long; below = h.below }

  pub scaled-sound : Sound (scaled F xs M)
  scaled-sound = record {
    order_low = s.order_low;
    order_high = s.order_high;
    length_low = s.length_low;
    length_high = s.length_high;
    dimension_low = s.dimension_low;
    dimension_high = s.dimension_high;
    distance_low = s.distance_low;
    distance_high = s.distance_high;
    word_long = λ m h. let w = s.word_long m (below m h) in length-products (total F) xs (M.word m) (p.counted ∙ sym w) ∙ w;
    word_below = λ m h. subst (λ (q : ℕ). Below q (products (total F) xs (M.word m))) p.order (products-below (total F) (total-laws F L) xs (M.word m));
    apart = λ m m' h h' ne.
        let w = s.word_long m (below m h) in
        let far = s.apart m m' (below m h) (below m' h') ne in
        let same = differ-products (total F) (total-laws F L) xs (M.word m) (M.word m') units (inside m h) (inside m' h') (p.counted ∙ sym w) in
        omega arith;
  }
    where
      inside : (m : List ℕ) → Message (scaled F xs M) m → Below F.order (M.word m)
      inside m h = subst (λ (q : ℕ). Below q (M.word m)) (sym p.order) (s.word_below m (below m h))
