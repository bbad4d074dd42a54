-- Sums, multiples and products of polynomials, coefficient by coefficient.
use Rattle.std.proofs.Common.{◌≡◌, ℕ, zero, suc, ◌<◌, List, [], ◌∷◌, get_or, take, drop, sym, refl, ap, ◌∙◌, subst, ap₂}
use Rattle.fields.specs.Arithmetic.{Arithmetic}
use Rattle.fields.specs.Numbers.{Below, Zeros}
use Rattle.fields.proofs.Algebra
use Rattle.fields.proofs.Total.{TotalLaws}
use Rattle.linear.specs.Polynomials.{value, added, scaled, product, Same}
use Rattle.linear.proofs.Kernel.{added-nil}
use Rattle.linear.proofs.Roots
use Rattle.linear.proofs.Values

pub get_or-zeros : (p : List ℕ) (k : ℕ) → Zeros p → get_or p k 0 ≡ 0
get_or-zeros [] k z = refl
get_or-zeros (a ∷ p) zero z = z.0
get_or-zeros (a ∷ p) (suc k) z = get_or-zeros p k z.1

pub zeros_from_get_or : (p : List ℕ) → ((k : ℕ) → 0 ≡ get_or p k 0) → Zeros p
zeros_from_get_or [] h = tt
zeros_from_get_or (a ∷ p) h = (sym (h 0), zeros_from_get_or p (λ k. h (suc k)))

module _ (F : Arithmetic) (L : TotalLaws F) where
  open F use {order as q, plus as ◌⊕◌, times as ◌⊗◌, opposite as neg, inverse as inv}

  infixl 65 ◌⊕◌
  infixl 70 ◌⊗◌
  pub added-comm : (p s : List ℕ) → added F p s ≡ added F s p
  added-comm [] s = sym (added-nil F s)
  added-comm (a ∷ p) [] = refl
  added-comm (a ∷ p) (b ∷ s) = ap₂ ◌∷◌ (L.plus_comm a b) (added-comm p s)

  pub added-assoc : (p s r : List ℕ) → added F (added F p s) r ≡ added F p (added F s r)
  added-assoc [] s r = refl
  added-assoc (a ∷ p) [] r = refl
  added-assoc (a ∷ p) (b ∷ s) [] = refl
  added-assoc (a ∷ p) (b ∷ s) (d ∷ r) = ap₂ ◌∷◌ (L.plus_assoc a b d) (added-assoc p s r)

  -- (p + s) + r = s + (p + r)
  pub added-left : (p s r : List ℕ) → added F (added F p s) r ≡ added F s (added F p r)
  added-left p s r = ap (λ t. added F t r) (added-comm p s) ∙ added-assoc s p r

  -- (p + s) + (r + t) = (p + r) + (s + t)
  pub added-middle : (p s r t : List ℕ) → added F (added F p s) (added F r t) ≡ added F (added F p r) (added F s t)
  added-middle p s r t =
      added-assoc p s (added F r t)
      ∙ ap (added F p) (sym (added-assoc s r t) ∙ ap (λ z. added F z t) (added-comm s r) ∙ added-assoc r s t)
      ∙ sym (added-assoc p r (added F s t))

  -- a coefficient of a sum
  pub get_or-sum : (p s : List ℕ) (k : ℕ) → Below q p → Below q s → get_or (added F p s) k 0 ≡ get_or p k 0 ⊕ get_or s k 0
  get_or-sum [] [] k hp hs = sym (L.plus_zero 0 (Algebra.zero-below F L))
  get_or-sum [] (b ∷ s) zero hp hs = sym (Algebra.zero-plus F L b hs.0)
  get_or-sum [] (b ∷ s) (suc k) hp hs = get_or-sum [] s k hp hs.1
  get_or-sum (a ∷ p) [] zero hp hs = sym (L.plus_zero a hp.0)
  get_or-sum (a ∷ p) [] (suc k) hp hs = ap (λ t. get_or t k 0) (sym (added-nil F p)) ∙ get_or-sum p [] k hp.1 hs
  get_or-sum (a ∷ p) (b ∷ s) zero hp hs = refl
  get_or-sum (a ∷ p) (b ∷ s) (suc k) hp hs = get_or-sum p s k hp.1 hs.1

  -- a coefficient of a multiple
  pub get_or-scaled : (c : ℕ) (p : List ℕ) (k : ℕ) → get_or (scaled F c p) k 0 ≡ c ⊗ get_or p k 0
  get_or-scaled c [] k = sym (Algebra.times_zero F L c)
  get_or-scaled c (a ∷ p) zero = refl
  get_or-scaled c (a ∷ p) (suc k) = get_or-scaled c p k

  pub zeros_added : (p s : List ℕ) → Zeros p → Zeros s → Zeros (added F p s)
  zeros_added [] s zp zs = zs
  zeros_added (a ∷ p) [] zp zs = zp
  zeros_added (a ∷ p) (b ∷ s) zp zs = (ap₂ ◌⊕◌ zp.0 zs.0 ∙ L.plus_zero 0 (Algebra.zero-below F L), zeros_added p s zp.1 zs.1)

  pub zeros_scaled : (c : ℕ) (p : List ℕ) → Zeros p → Zeros (scaled F c p)
  zeros_scaled c [] z = tt
  zeros_scaled c (a ∷ p) z = (ap (λ x. c ⊗ x) z.0 ∙ Algebra.times_zero F L c, zeros_scaled c p z.1)

  -- 0 times a polynomial
  pub zeros_by_zero : (c : ℕ) (p : List ℕ) → c ≡ 0 → Zeros (scaled F c p)
  zeros_by_zero c [] e = tt
  zeros_by_zero c (a ∷ p) e = (ap (λ x. x ⊗ a) e ∙ Algebra.zero-times F L a, zeros_by_zero c p e)

  pub zeros_product : (p s : List ℕ) → Zeros p → Zeros (product F p s)
  zeros_product [] s z = tt
  zeros_product (a ∷ p) s z = zeros_added (scaled F a s) (0 ∷ product F p s) (zeros_by_zero a s z.0) (refl, zeros_product p s z.1)

  -- zeros added change no coefficient
  pub added-zeros : (p z : List ℕ) (k : ℕ) → Below q p → Zeros z → get_or (added F p z) k 0 ≡ get_or p k 0
  added-zeros [] z k hp h = get_or-zeros z k h
  added-zeros (a ∷ p) [] k hp h = refl
  added-zeros (a ∷ p) (b ∷ z) zero hp h = ap (λ x. a ⊕ x) h.0 ∙ L.plus_zero a hp.0
  added-zeros (a ∷ p) (b ∷ z) (suc k) hp h = added-zeros p z k hp.1 h.1

  -- what is added to zeros and makes zeros
  pub zeros_right : (z p : List ℕ) → Below q p → Zeros z → Zeros (added F z p) → Zeros p
  zeros_right z p hp hz h = zeros_from_get_or p (λ k. sym (get_or-zeros (added F z p) k h) ∙ ap (λ t. get_or t k 0) (added-comm z p) ∙ added-zeros p z k hp hz)

  -- lists of one polynomial have equal values
  pub value_same : (p s : List ℕ) (x : ℕ) → Same p s → value F p x ≡ value F s x
  value_same [] s x h = sym (Roots.value-zeros F L x s (zeros_from_get_or s h))
  value_same (a ∷ p) [] x h = Roots.value-zeros F L x (a ∷ p) (zeros_from_get_or (a ∷ p) (λ k. sym (h k)))
  value_same (a ∷ p) (b ∷ s) x h = ap₂ (λ c v. c ⊕ x ⊗ v) (h 0) (value_same p s x (λ k. h (suc k)))

  scaled-sum : (a b : ℕ) (s : List ℕ) → scaled F (a ⊕ b) s ≡ added F (scaled F a s) (scaled F b s)
  scaled-sum a b [] = refl
  scaled-sum a b (x ∷ s) = ap₂ ◌∷◌ (Algebra.spread-right F L a b x) (scaled-sum a b s)

  scaled-added : (c : ℕ) (p s : List ℕ) → scaled F c (added F p s) ≡ added F (scaled F c p) (scaled F c s)
  scaled-added c [] s = refl
  scaled-added c (a ∷ p) [] = refl
  scaled-added c (a ∷ p) (b ∷ s) = ap₂ ◌∷◌ (L.spread c a b) (scaled-added c p s)

  scaled-scaled : (c a : ℕ) (s : List ℕ) → scaled F (c ⊗ a) s ≡ scaled F c (scaled F a s)
  scaled-scaled c a [] = refl
  scaled-scaled c a (x ∷ s) = ap₂ ◌∷◌ (L.times_assoc c a x) (scaled-scaled c a s)

  -- (p + r) s = p s + r s
  pub product-added : (p r s : List ℕ) → product F (added F p r) s ≡ added F (product F p s) (product F r s)
  product-added [] r s = refl
  product-added (a ∷ p) [] s = sym (added-nil F (product F (a ∷ p) s))
  product-added (a ∷ p) (b ∷ r) s =
      let x = product F p s in
      let y = product F r s in
      ap₂ (added F) (scaled-sum a b s) (ap₂ ◌∷◌ (sym (L.plus_zero 0 (Algebra.zero-below F L))) (product-added p r s))
      ∙ added-middle (scaled F a s) (scaled F b s) (0 ∷ x) (0 ∷ y)

  -- (c p) s = c (p s)
  pub product-scaled : (c : ℕ) (p s : List ℕ) → product F (scaled F c p) s ≡ scaled F c (product F p s)
  product-scaled c [] s = refl
  product-scaled c (a ∷ p) s =
      ap₂ (added F) (scaled-scaled c a s) (ap₂ ◌∷◌ (sym (Algebra.times_zero F L c)) (product-scaled c p s))
      ∙ sym (scaled-added c (scaled F a s) (0 ∷ product F p s))

  -- (a s + b) - (c s + d) = (a - c) s + (b - d)
  pub minus-divided : (a b c d s : List ℕ)
      → added F (product F (Values.minus F L a c) s) (Values.minus F L b d) ≡ Values.minus F L (added F (product F a s) b) (added F (product F c s) d)
  minus-divided a b c d s =
      let n = neg 1 in
      ap (λ t. added F t (Values.minus F L b d)) (product-added a (scaled F n c) s ∙ ap (added F (product F a s)) (product-scaled n c s))
      ∙ added-middle (product F a s) (scaled F n (product F c s)) b (scaled F n d)
      ∙ ap (added F (added F (product F a s) b)) (sym (scaled-added n (product F c s) d))

  minus_one : (x : ℕ) → x < q → neg 1 ⊗ x ≡ neg x
  minus_one x h = Algebra.minus-left F L 1 x ∙ ap neg (L.times_comm 1 x ∙ L.times_one x h)

  -- lists of one polynomial have the difference 0
  pub zeros_minus : (p s : List ℕ) → Below q s → Same p s → Zeros (Values.minus F L p s)
  zeros_minus [] s hs h = zeros_scaled (neg 1) s (zeros_from_get_or s h)
  zeros_minus (a ∷ p) [] hs h = zeros_from_get_or (a ∷ p) (λ k. sym (h k))
  zeros_minus (a ∷ p) (b ∷ s) hs h = (ap₂ ◌⊕◌ (h 0) (minus_one b hs.0) ∙ L.plus_opposite b, zeros_minus p s hs.1 (λ k. h (suc k)))

  -- a multiple and the opposite multiple, of the list without its zeros at the end
  pub zeros_opposite : (d m : ℕ) (s : List ℕ) → Zeros (drop m s) → Zeros (added F (scaled F d s) (scaled F (neg d) (take m s)))
  zeros_opposite d zero s z = subst Zeros (sym (added-nil F (scaled F d s))) (zeros_scaled d s z)
  zeros_opposite d (suc m) [] z = tt
  zeros_opposite d (suc m) (a ∷ s) z = (sym (Algebra.spread-right F L d (neg d) a) ∙ ap (λ x. x ⊗ a) (L.plus_opposite d) ∙ Algebra.zero-times F L a, zeros_opposite d m s z)
