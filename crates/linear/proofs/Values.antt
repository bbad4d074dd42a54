-- Values of sums, multiples and products of polynomials.
use Rattle.std.proofs.Common.{◌≡◌, ℕ, suc, ◌+◌, ◌<◌, ◌≤◌, max, List, [], ◌∷◌, length, sym, refl, ap, ◌∙◌, ap₂, arith}
use lib.ListN.{length-map}
use Rattle.fields.specs.Arithmetic.{Arithmetic}
use Rattle.fields.proofs.Total.{TotalLaws}
use Rattle.fields.proofs.Algebra
use Rattle.fields.specs.Numbers.{Below, Zeros}
use Rattle.linear.specs.Polynomials.{value, added, scaled, product}
use Rattle.linear.proofs.Roots

module _ (F : Arithmetic) (L : TotalLaws F) where
  open F use {order as q, plus as ◌⊕◌, times as ◌⊗◌, opposite as neg, inverse as inv}

  infixl 65 ◌⊕◌
  infixl 70 ◌⊗◌
  pub value-added : (p s : List ℕ) (x : ℕ) → value F (added F p s) x ≡ value F p x ⊕ value F s x
  value-added [] s x = sym (Algebra.zero-plus F L (value F s x) (Roots.value-below F L s x))
  value-added (a ∷ p) [] x = sym (L.plus_zero (value F (a ∷ p) x) (Roots.value-below F L (a ∷ p) x))
  value-added (a ∷ p) (b ∷ s) x =
      ap (λ w. a ⊕ b ⊕ w) (ap (λ w. x ⊗ w) (value-added p s x) ∙ L.spread x (value F p x) (value F s x))
      ∙ Algebra.middle F L a b (x ⊗ value F p x) (x ⊗ value F s x)

  pub value-scaled : (c : ℕ) (p : List ℕ) (x : ℕ) → value F (scaled F c p) x ≡ c ⊗ value F p x
  value-scaled c [] x = sym (Algebra.times_zero F L c)
  value-scaled c (a ∷ p) x =
      ap (λ w. c ⊗ a ⊕ w) (ap (λ w. x ⊗ w) (value-scaled c p x) ∙ Algebra.times-left F L x c (value F p x))
      ∙ sym (L.spread c a (x ⊗ value F p x))

  pub value-product : (p s : List ℕ) (x : ℕ) → value F (product F p s) x ≡ value F p x ⊗ value F s x
  value-product [] s x = sym (Algebra.zero-times F L (value F s x))
  value-product (a ∷ p) s x =
      let u = value F p x in
      let v = value F s x in
      let r = value F (product F p s) x in
      value-added (scaled F a s) (0 ∷ product F p s) x
      ∙ ap₂ ◌⊕◌ (value-scaled a s x) (Algebra.zero-plus F L (x ⊗ r) (L.times_below x r) ∙ ap (λ w. x ⊗ w) (value-product p s x) ∙ sym (L.times_assoc x u v))
      ∙ sym (Algebra.spread-right F L a (x ⊗ u) v)

  pub length-added : (p s : List ℕ) → length (added F p s) ≡ max (length p) (length s)
  length-added [] s = omega arith
  length-added (a ∷ p) [] = omega arith
  length-added (a ∷ p) (b ∷ s) = omega (arith, length-added p s)

  pub length-product : (p s : List ℕ) (n : ℕ) → length s ≡ suc n → length (product F p s) ≤ length p + n
  length-product [] s n e = omega arith
  length-product (a ∷ p) s n e =
      omega (arith, length-added (scaled F a s) (0 ∷ product F p s), length-product p s n e, length-map s (F.times a))

  pub added-below : (p s : List ℕ) → Below q p → Below q s → Below q (added F p s)
  added-below [] s hp hs = hs
  added-below (a ∷ p) [] hp hs = hp
  added-below (a ∷ p) (b ∷ s) hp hs = (L.plus_below a b, added-below p s hp.1 hs.1)

  pub scaled-below : (c : ℕ) (p : List ℕ) → Below q (scaled F c p)
  scaled-below c [] = tt
  scaled-below c (a ∷ p) = (L.times_below c a, scaled-below c p)

  pub product-below : (p s : List ℕ) → Below q (product F p s)
  product-below [] s = tt
  product-below (a ∷ p) s = added-below (scaled F a s) (0 ∷ product F p s) (scaled-below a s) (Algebra.zero-below F L, product-below p s)

  -- x + (-1) y = 0 only of equal numbers
  minus_one : (x y : ℕ) → x < q → y < q → x ⊕ neg 1 ⊗ y ≡ 0 → x ≡ y
  minus_one x y hx hy e =
      Algebra.same_from F L x y hx hy (ap (λ w. x ⊕ w) (sym (Algebra.minus-left F L 1 y ∙ ap neg (L.times_comm 1 y ∙ L.times_one y hy))) ∙ e)

  -- the difference of two polynomials
  abbrev pub minus : List ℕ → List ℕ → List ℕ
  minus p s = added F p (scaled F (neg 1) s)

  pub same_from_minus : (p s : List ℕ) → length p ≡ length s → Below q p → Below q s → Zeros (minus p s) → p ≡ s
  same_from_minus [] [] e hp hs z = refl
  same_from_minus [] (b ∷ s) e hp hs z = absurd (omega arith)
  same_from_minus (a ∷ p) [] e hp hs z = absurd (omega arith)
  same_from_minus (a ∷ p) (b ∷ s) e hp hs z = ap₂ ◌∷◌ (minus_one a b hp.0 hs.0 z.0) (same_from_minus p s (omega arith) hp.1 hs.1 z.1)

  pub value-minus : (p s : List ℕ) (x : ℕ) → value F p x ≡ value F s x → value F (minus p s) x ≡ 0
  value-minus p s x e =
      let v = value F s x in
      value-added p (scaled F (neg 1) s) x
      ∙ ap₂ ◌⊕◌ e (value-scaled (neg 1) s x ∙ Algebra.minus-left F L 1 v ∙ ap neg (L.times_comm 1 v ∙ L.times_one v (Roots.value-below F L s x)))
      ∙ L.plus_opposite v
