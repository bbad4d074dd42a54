-- A polynomial with as many roots as coefficients is zero.
use Rattle.std.proofs.Common.{◌≡◌, ℕ, ◌<◌, ◌≤◌, ◌≢◌, List, [], ◌∷◌, length, get_or, sym, refl, ap, ◌∙◌, ap₂, arith}
use Rattle.std.specs.List.{AllByRecursion}
use Rattle.fields.specs.Arithmetic.{Arithmetic}
use Rattle.fields.proofs.Total.{TotalLaws}
use Rattle.fields.proofs.Algebra
use Rattle.fields.specs.Numbers.{Below, Zeros, Distinct}
use Rattle.linear.specs.Polynomials.{value}

module _ (F : Arithmetic) (L : TotalLaws F) where
  open F use {order as q, plus as ◌⊕◌, times as ◌⊗◌, opposite as neg, inverse as inv}

  infixl 65 ◌⊕◌
  infixl 70 ◌⊗◌
  pub value-below : (p : List ℕ) (x : ℕ) → value F p x < q
  value-below [] x = Algebra.zero-below F L
  value-below (a ∷ p) x = L.plus_below a (x ⊗ value F p x)

  -- the value at 0 is the constant
  pub value-at_zero : (p : List ℕ) → Below q p → value F p 0 ≡ get_or p 0 0
  value-at_zero [] h = refl
  value-at_zero (a ∷ p) h = ap (λ w. a ⊕ w) (Algebra.zero-times F L (value F p 0)) ∙ L.plus_zero a h.0

  -- the values of the ends of p: the quotient by x - r of any polynomial a ∷ p
  abbrev tails : ℕ → List ℕ → List ℕ
  tails r [] = []
  tails r (b ∷ p) = value F (b ∷ p) r ∷ tails r p

  -- r v + (x - r) v = x v
  difference : (x r v : ℕ) → r ⊗ v ⊕ (x ⊕ neg r) ⊗ v ≡ x ⊗ v
  difference x r v =
      ap (λ w. r ⊗ v ⊕ w) (Algebra.spread-right F L x (neg r) v) ∙ Algebra.plus-left F L (r ⊗ v) (x ⊗ v) (neg r ⊗ v)
      ∙ ap (λ w. x ⊗ v ⊕ w) (sym (Algebra.spread-right F L r (neg r) v) ∙ ap (λ w. w ⊗ v) (L.plus_opposite r) ∙ Algebra.zero-times F L v)
      ∙ L.plus_zero (x ⊗ v) (L.times_below x v)

  -- p(x) = p(r) + (x - r) · quotient(x)
  pub factor : (a r x : ℕ) (p : List ℕ) → value F (a ∷ p) x ≡ value F (a ∷ p) r ⊕ (x ⊕ neg r) ⊗ value F (tails r p) x
  factor a r x [] =
      ap (λ w. a ⊕ w) (Algebra.times_zero F L x ∙ sym (Algebra.times_zero F L r))
      ∙ sym (ap (λ w. a ⊕ r ⊗ 0 ⊕ w) (Algebra.times_zero F L (x ⊕ neg r)) ∙ L.plus_zero (a ⊕ r ⊗ 0) (L.plus_below a (r ⊗ 0)))
  factor a r x (b ∷ p) =
      let v = value F (b ∷ p) r in
      let t = value F (tails r p) x in
      let d = x ⊕ neg r in
      ap (λ w. a ⊕ x ⊗ w) (factor b r x p)
      ∙ ap (λ w. a ⊕ w) (L.spread x v (d ⊗ t) ∙ ap (λ w. w ⊕ x ⊗ (d ⊗ t)) (sym (difference x r v)) ∙ L.plus_assoc (r ⊗ v) (d ⊗ v) (x ⊗ (d ⊗ t)))
      ∙ ap (λ w. a ⊕ (r ⊗ v ⊕ w)) (ap (λ w. d ⊗ v ⊕ w) (Algebra.times-left F L x d t) ∙ sym (L.spread d v (x ⊗ t)))
      ∙ sym (L.plus_assoc a (r ⊗ v) (d ⊗ (v ⊕ x ⊗ t)))

  length-tails : (r : ℕ) (p : List ℕ) → length (tails r p) ≡ length p
  length-tails r [] = refl
  length-tails r (b ∷ p) = omega (arith, length-tails r p)

  tails-below : (r : ℕ) (p : List ℕ) → Below q (tails r p)
  tails-below r [] = tt
  tails-below r (b ∷ p) = (value-below (b ∷ p) r, tails-below r p)

  -- a constant term before zeros
  pub value-zeros : (x : ℕ) (p : List ℕ) → Zeros p → value F p x ≡ 0
  value-zeros x [] z = refl
  value-zeros x (b ∷ p) z =
      ap₂ ◌⊕◌ z.0 (ap (λ w. x ⊗ w) (value-zeros x p z.1) ∙ Algebra.times_zero F L x) ∙ L.plus_zero 0 (Algebra.zero-below F L)

  head_zero : (a x : ℕ) (p : List ℕ) → a < q → Zeros p → value F (a ∷ p) x ≡ 0 → a ≡ 0
  head_zero a x p h z e = sym (L.plus_zero a h) ∙ ap (λ w. a ⊕ w) (sym (Algebra.times_zero F L x) ∙ ap (λ w. x ⊗ w) (sym (value-zeros x p z))) ∙ e

  zeros_from_tails : (r : ℕ) (p : List ℕ) → Below q p → Zeros (tails r p) → Zeros p
  zeros_from_tails r [] h z = tt
  zeros_from_tails r (b ∷ p) h z =
      let rest = zeros_from_tails r p h.1 z.1 in
      (head_zero b r p h.0 rest z.0, rest)

  others : (a r : ℕ) (p rs : List ℕ) → r < q → value F (a ∷ p) r ≡ 0 → AllByRecursion (λ y. y ≢ r) rs → Below q rs → AllByRecursion (λ x. value F (a ∷ p) x ≡ 0) rs → AllByRecursion (λ x. value F (tails r p) x ≡ 0) rs
  others a r p [] hr e n h z = tt
  others a r p (x ∷ rs) hr e n h z =
      let d = x ⊕ neg r in
      let t = value F (tails r p) x in
      let dt : d ⊗ t ≡ 0 = sym (Algebra.zero-plus F L (d ⊗ t) (L.times_below d t)) ∙ ap (λ w. w ⊕ d ⊗ t) (sym e) ∙ sym (factor a r x p) ∙ z.0 in (
        Algebra.no_divisor F L d t (L.plus_below x (neg r)) (λ w. n.0 (Algebra.same_from F L x r h.0 hr w)) (value-below (tails r p) x) dt,
        others a r p rs hr e n.1 h.1 z.1,
      )

  pub roots_bound : (points p : List ℕ) → Distinct points → Below q points → Below q p → AllByRecursion (λ x. value F p x ≡ 0) points → length p ≤ length points → Zeros p
  roots_bound [] [] ds hs hp z le = tt
  roots_bound [] (a ∷ p) ds hs hp z le = absurd (omega arith)
  roots_bound (r ∷ rs) [] ds hs hp z le = tt
  roots_bound (r ∷ rs) (a ∷ p) ds hs hp z le =
      let quotient = roots_bound rs (tails r p) ds.1 hs.1 (tails-below r p) (others a r p rs hs.0 z.0 ds.0 hs.1 z.1) (omega (arith, length-tails r p)) in
      let rest = zeros_from_tails r p hp.1 quotient in
      (head_zero a r p hp.0 rest z.0, rest)
