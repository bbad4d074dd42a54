-- What the laws of a field give: sums and products rearranged, what cancels, and that there is no divisor of zero.
use Rattle.std.proofs.Common.{◌≡◌, ℕ, ◌<◌, ◌≢◌, sym, ap, ◌∙◌, arith}
use Rattle.fields.specs.Arithmetic.{Arithmetic}
use Rattle.fields.proofs.Total.{TotalLaws}

module _ (F : Arithmetic) (L : TotalLaws F) where
  open F use {order as q, plus as ◌⊕◌, times as ◌⊗◌, opposite as neg, inverse as inv}

  infixl 65 ◌⊕◌
  infixl 70 ◌⊗◌
  pub zero-below : 0 < q
  zero-below = omega (arith, L.two)

  pub one_below : 1 < q
  one_below = omega (arith, L.two)

  pub zero-plus : (x : ℕ) → x < q → 0 ⊕ x ≡ x
  zero-plus x h = L.plus_comm 0 x ∙ L.plus_zero x h

  -- (a + b) + (c + d) = (a + c) + (b + d)
  pub middle : (a b c d : ℕ) → a ⊕ b ⊕ (c ⊕ d) ≡ a ⊕ c ⊕ (b ⊕ d)
  middle a b c d = L.plus_assoc a b (c ⊕ d) ∙ ap (λ z. a ⊕ z) (sym (L.plus_assoc b c d) ∙ ap (λ z. z ⊕ d) (L.plus_comm b c) ∙ L.plus_assoc c b d) ∙ sym (L.plus_assoc a c (b ⊕ d))

  pub plus-left : (a b c : ℕ) → a ⊕ (b ⊕ c) ≡ b ⊕ (a ⊕ c)
  plus-left a b c = sym (L.plus_assoc a b c) ∙ ap (λ z. z ⊕ c) (L.plus_comm a b) ∙ L.plus_assoc b a c

  pub times-left : (a b c : ℕ) → a ⊗ (b ⊗ c) ≡ b ⊗ (a ⊗ c)
  times-left a b c = sym (L.times_assoc a b c) ∙ ap (λ z. z ⊗ c) (L.times_comm a b) ∙ L.times_assoc b a c

  pub spread-right : (x y z : ℕ) → (x ⊕ y) ⊗ z ≡ x ⊗ z ⊕ y ⊗ z
  spread-right x y z = L.times_comm (x ⊕ y) z ∙ L.spread z x y ∙ ap (λ w. w ⊕ z ⊗ y) (L.times_comm z x) ∙ ap (λ w. x ⊗ z ⊕ w) (L.times_comm z y)

  -- what is added may be taken away
  pub cancel : (x y z : ℕ) → y < q → z < q → x ⊕ y ≡ x ⊕ z → y ≡ z
  cancel x y z hy hz e = sym (gone y hy) ∙ ap (λ w. neg x ⊕ w) e ∙ gone z hz
    where
      gone : (v : ℕ) → v < q → neg x ⊕ (x ⊕ v) ≡ v
      gone v h = sym (L.plus_assoc (neg x) x v) ∙ ap (λ w. w ⊕ v) (L.plus_comm (neg x) x ∙ L.plus_opposite x) ∙ zero-plus v h

  pub times_zero : (x : ℕ) → x ⊗ 0 ≡ 0
  times_zero x = cancel (x ⊗ 0) (x ⊗ 0) 0 (L.times_below x 0) zero-below (sym (L.spread x 0 0) ∙ ap (λ w. x ⊗ w) (L.plus_zero 0 zero-below) ∙ sym (L.plus_zero (x ⊗ 0) (L.times_below x 0)))

  pub zero-times : (x : ℕ) → 0 ⊗ x ≡ 0
  zero-times x = L.times_comm 0 x ∙ times_zero x

  -- no divisors of zero
  pub no_divisor : (x y : ℕ) → x < q → x ≢ 0 → y < q → x ⊗ y ≡ 0 → y ≡ 0
  no_divisor x y hx nx hy e =
      sym (L.times_one y hy) ∙ ap (λ w. y ⊗ w) (sym (L.times_inverse x hx nx)) ∙ times-left y x (inv x) ∙ sym (L.times_assoc x y (inv x)) ∙ ap (λ w. w ⊗ inv x) e ∙ zero-times (inv x)

  -- equal numbers, from a difference that is 0
  pub same_from : (x y : ℕ) → x < q → y < q → x ⊕ neg y ≡ 0 → x ≡ y
  same_from x y hx hy e = cancel (neg y) x y hx hy (L.plus_comm (neg y) x ∙ e ∙ sym (L.plus_comm (neg y) y ∙ L.plus_opposite y))

  pub minus-left : (x y : ℕ) → neg x ⊗ y ≡ neg (x ⊗ y)
  minus-left x y = cancel (x ⊗ y) (neg x ⊗ y) (neg (x ⊗ y)) (L.times_below (neg x) y) (L.opposite_below (x ⊗ y)) (sym (spread-right x (neg x) y) ∙ ap (λ w. w ⊗ y) (L.plus_opposite x) ∙ zero-times y ∙ sym (L.plus_opposite (x ⊗ y)))
