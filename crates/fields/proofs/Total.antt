-- The laws below the order give laws of the total operations, most of them with no premise.
use Rattle.std.proofs.Common.{◌≡◌, ℕ, ◌<◌, ◌≤◌, Bool, true, false, cond, eqb, ltb, ◌≢◌, Some, None, sym, refl, ap, ◌∙◌, ap₂, arith, ltb-true, lt-ltb}
use Rattle.std.proofs.lemmas.Bool.Decides.{nat_tests}
use Rattle.fields.specs.Arithmetic.{Arithmetic, counted, total, inverted}
use Rattle.fields.specs.Laws.{Laws}

pub counted-below : (n x : ℕ) → 0 < n → counted n x < n
counted-below n x h = go (ltb x n) refl
  where
    go : (b : Bool) → ltb x n ≡ b → cond b x 0 < n
    go true e = ltb-true x n e
    go false e = h

pub counted_same : (n x : ℕ) → x < n → counted n x ≡ x
counted_same n x h = ap (λ b. cond b x 0) (lt-ltb x n h)

-- the laws of operations on all numbers
pub record TotalLaws (F : Arithmetic) : Type 0 where
  pub two : 2 ≤ F.order
  pub plus_below : (x y : ℕ) → F.plus x y < F.order
  pub opposite_below : (x : ℕ) → F.opposite x < F.order
  pub times_below : (x y : ℕ) → F.times x y < F.order
  pub inverse_below : (x : ℕ) → F.inverse x < F.order
  pub plus_comm : (x y : ℕ) → F.plus x y ≡ F.plus y x
  pub plus_assoc : (x y z : ℕ) → F.plus (F.plus x y) z ≡ F.plus x (F.plus y z)
  pub times_comm : (x y : ℕ) → F.times x y ≡ F.times y x
  pub times_assoc : (x y z : ℕ) → F.times (F.times x y) z ≡ F.times x (F.times y z)
  pub spread : (x y z : ℕ) → F.times x (F.plus y z) ≡ F.plus (F.times x y) (F.times x z)
  pub plus_zero : (x : ℕ) → x < F.order → F.plus x 0 ≡ x
  pub times_one : (x : ℕ) → x < F.order → F.times x 1 ≡ x
  pub plus_opposite : (x : ℕ) → F.plus x (F.opposite x) ≡ 0
  pub times_inverse : (x : ℕ) → x < F.order → x ≢ 0 → F.times x (F.inverse x) ≡ 1

module _ (F : Arithmetic) (L : Laws F) where
  open F use {order as q, plus as ◌⊕◌, times as ◌⊗◌, opposite as neg}

  infixl 65 ◌⊕◌
  infixl 70 ◌⊗◌
  abbrev k : ℕ → ℕ
  k = counted q

  some : 0 < q
  some = omega (arith, L.sizes.low)

  one_below : 1 < q
  one_below = omega (arith, L.sizes.low)

  b : (x : ℕ) → k x < q
  b x = counted-below q x some

  sum-in : (x y : ℕ) → k x ⊕ k y < q
  sum-in x y = L.sums.below (k x) (k y) (b x) (b y)

  product-in : (x y : ℕ) → k x ⊗ k y < q
  product-in x y = L.products.below (k x) (k y) (b x) (b y)

  sum_same : (x y : ℕ) → k (k x ⊕ k y) ≡ k x ⊕ k y
  sum_same x y = counted_same q (k x ⊕ k y) (sum-in x y)

  product-same : (x y : ℕ) → k (k x ⊗ k y) ≡ k x ⊗ k y
  product-same x y = counted_same q (k x ⊗ k y) (product-in x y)

  pub total-laws : TotalLaws (total F)
  total-laws = record {
    two = L.sizes.low;
    plus_below = sum-in;
    opposite_below = λ x. L.sums.opposite_below (k x) (b x);
    times_below = product-in;
    inverse_below = λ x. L.inverses.below (k x) (b x);
    plus_comm = λ x y. L.sums.commutes (k x) (k y) (b x) (b y);
    plus_assoc = λ x y z. ap (λ w. w ⊕ k z) (sum_same x y) ∙ L.sums.associates (k x) (k y) (k z) (b x) (b y) (b z) ∙ ap (λ w. k x ⊕ w) (sym (sum_same y z));
    times_comm = λ x y. L.products.commutes (k x) (k y) (b x) (b y);
    times_assoc = λ x y z. ap (λ w. w ⊗ k z) (product-same x y) ∙ L.products.associates (k x) (k y) (k z) (b x) (b y) (b z) ∙ ap (λ w. k x ⊗ w) (sym (product-same y z));
    spread = λ x y z. ap (λ w. k x ⊗ w) (sum_same y z) ∙ L.products.distributes (k x) (k y) (k z) (b x) (b y) (b z) ∙ ap₂ ◌⊕◌ (sym (product-same x y)) (sym (product-same x z));
    plus_zero = λ x h. ap₂ ◌⊕◌ (counted_same q x h) (counted_same q 0 some) ∙ L.sums.commutes x 0 h some ∙ L.sums.zero x h;
    times_one = λ x h. ap₂ ◌⊗◌ (counted_same q x h) (counted_same q 1 one_below) ∙ L.products.commutes x 1 h one_below ∙ L.products.one x h;
    plus_opposite = λ x. ap (λ w. k x ⊕ w) (counted_same q (neg (k x)) (L.sums.opposite_below (k x) (b x))) ∙ L.sums.opposite (k x) (b x);
    times_inverse = λ x h n. ap₂ ◌⊗◌ (counted_same q x h) (ap (λ w. k (F.inverse w)) (counted_same q x h) ∙ counted_same q (F.inverse x) (L.inverses.below x h)) ∙ L.inverses.inverse x h (pos x n);
  }
    where
      pos : (x : ℕ) → x ≢ 0 → 0 < x
      pos x n = omega arith

-- what a present inverse says
pub inverse-some : (F : Arithmetic) (x y : ℕ) → Some y ≡ inverted F x → (y ≡ (total F).inverse x) × (x < F.order) × (x ≢ 0)
inverse-some F x y e = go (eqb (counted F.order x) 0) refl e
  where
    go : (b : Bool) → eqb (counted F.order x) 0 ≡ b → Some y ≡ cond b None (Some (F.inverse (counted F.order x))) → (y ≡ (total F).inverse x) × (x < F.order) × (x ≢ 0)
    go true h e = let z : ◌≡◌ {A = ℕ} 0 1 = cc in absurd (omega arith)
    go false h e = (cc, grind (arith, nat_tests), λ z. grind (arith, nat_tests))

-- what an absent inverse says
pub inverse-none : (F : Arithmetic) (x : ℕ) → None ≡ inverted F x → x < F.order → x ≡ 0
inverse-none F x e l = go (eqb (counted F.order x) 0) refl e
  where
    go : (b : Bool) → eqb (counted F.order x) 0 ≡ b → None ≡ cond b None (Some (F.inverse (counted F.order x))) → x ≡ 0
    go true h e = grind (arith, nat_tests)
    go false h e = let z : ◌≡◌ {A = ℕ} 0 1 = cc in absurd (omega arith)
