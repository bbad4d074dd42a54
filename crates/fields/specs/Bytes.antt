-- Polynomials over the two-element field modulo 285 are a field: by linearity, and by tests computed on the powers of 2.
use Rattle.std.specs.Prelude.{◌≡◌, ℕ, zero, suc, ◌-◌, ◌^◌, ◌<◌, Bool, T, ◌==◌, nat_lt, refl}
use Rattle.std.proofs.Common.{sym, ap, subst, ◌∙◌, arith, eqb→eq, ltb→lt}
use Rattle.std.specs.Int.Bits.{xor_zero_l, xor_assoc, xor_self}
use Rattle.std.proofs.lemmas.Nat.{xor_comm, xor_lt}
use Rattle.fields.specs.Arithmetic.{partner}
use Rattle.fields.specs.Binary.{product, bytes}
use Rattle.fields.specs.Laws.{Sizes, Sums, Products, Inverses}
use Rattle.fields.specs.Linearity.{by_bits, agree, linear_zero, then_linear, times-linear_l, times-linear_r}
use Rattle.fields.specs.Search.{partner-below, partner-times}
use Rattle.fields.specs.Computed.{every, every-at}

-- tests on the powers of 2, computed

abbrev below_at : ℕ → ℕ → Bool
below_at i j = nat_lt (product (2 ^ i) (2 ^ j)) 256

abbrev comm_at : ℕ → ℕ → Bool
comm_at i j = product (2 ^ i) (2 ^ j) == product (2 ^ j) (2 ^ i)

abbrev assoc_at : ℕ → ℕ → ℕ → Bool
assoc_at i j k = product (product (2 ^ i) (2 ^ j)) (2 ^ k) == product (2 ^ i) (product (2 ^ j) (2 ^ k))

abbrev one_at : ℕ → Bool
one_at i = product 1 (2 ^ i) == 2 ^ i

below-test : (i : ℕ) → i < 8 → (j : ℕ) → j < 8 → T (below_at i j)
below-test i hi = every-at (below_at i) 8 (every-at (λ i. every (below_at i) 8) 8 tt i hi)

comm_test : (i : ℕ) → i < 8 → (j : ℕ) → j < 8 → T (comm_at i j)
comm_test i hi = every-at (comm_at i) 8 (every-at (λ i. every (comm_at i) 8) 8 tt i hi)

assoc_test : (i : ℕ) → i < 8 → (j : ℕ) → j < 8 → (k : ℕ) → k < 8 → T (assoc_at i j k)
assoc_test i hi j hj =
    every-at (assoc_at i j) 8 (every-at (λ j. every (assoc_at i j) 8) 8 (every-at (λ i. every (λ j. every (assoc_at i j) 8) 8) 8 tt i hi) j hj)

one-test : (i : ℕ) → i < 8 → T (one_at i)
one-test = every-at one_at 8 tt

-- what the tests give, by linearity

pub times_below : (a b : ℕ) → a < 256 → b < 256 → product a b < 256
times_below a b ha hb =
    by_bits (λ x. product x b < 256) (subst (λ k. k < 256) (sym (linear_zero (λ x. product x b) (times-linear_l b))) (omega arith))
    (λ x y p q. subst (λ k. k < 256) (sym (times-linear_l b x y)) (xor_lt 8 (product x b) (product y b) p q)) 8
    (λ i hi. by_bits (λ y. product (2 ^ i) y < 256) (subst (λ k. k < 256) (sym (linear_zero (product (2 ^ i)) (times-linear_r (2 ^ i)))) (omega arith))
    (λ x y p q. subst (λ k. k < 256) (sym (times-linear_r (2 ^ i) x y)) (xor_lt 8 (product (2 ^ i) x) (product (2 ^ i) y) p q)) 8
    (λ j hj. ltb→lt (product (2 ^ i) (2 ^ j)) 256 (below-test i hi j hj)) b hb) a ha

times_comm : (a b : ℕ) → a < 256 → b < 256 → product a b ≡ product b a
times_comm a b ha hb =
    agree (λ x. product x b) (product b) (times-linear_l b) (times-linear_r b) 8
    (λ i hi. agree (product (2 ^ i)) (λ y. product y (2 ^ i)) (times-linear_r (2 ^ i)) (times-linear_l (2 ^ i)) 8
    (λ j hj. eqb→eq (product (2 ^ i) (2 ^ j)) (product (2 ^ j) (2 ^ i)) (comm_test i hi j hj)) b hb) a ha

times_assoc : (a b c : ℕ) → a < 256 → b < 256 → c < 256 → product (product a b) c ≡ product a (product b c)
times_assoc a b c ha hb hc =
    agree (λ x. product (product x b) c) (λ x. product x (product b c))
    (then_linear (λ x. product x b) (λ x. product x c) (times-linear_l b) (times-linear_l c)) (times-linear_l (product b c)) 8
    (λ i hi. agree (λ y. product (product (2 ^ i) y) c) (λ y. product (2 ^ i) (product y c))
    (then_linear (product (2 ^ i)) (λ x. product x c) (times-linear_r (2 ^ i)) (times-linear_l c))
    (then_linear (λ y. product y c) (product (2 ^ i)) (times-linear_l c) (times-linear_r (2 ^ i))) 8
    (λ j hj. agree (product (product (2 ^ i) (2 ^ j))) (λ z. product (2 ^ i) (product (2 ^ j) z))
    (times-linear_r (product (2 ^ i) (2 ^ j)))
    (then_linear (product (2 ^ j)) (product (2 ^ i)) (times-linear_r (2 ^ j)) (times-linear_r (2 ^ i))) 8
    (λ k hk. eqb→eq (product (product (2 ^ i) (2 ^ j)) (2 ^ k)) (product (2 ^ i) (product (2 ^ j) (2 ^ k)))
    (assoc_test i hi j hj k hk)) c hc) b hb) a ha

one-times : (a : ℕ) → a < 256 → product 1 a ≡ a
one-times a h =
    agree (product 1) (λ x. x) (times-linear_r 1) (λ x y. refl) 8 (λ i hi. eqb→eq (product 1 (2 ^ i)) (2 ^ i) (one-test i hi)) a h

-- n turns of squaring s and multiplying p by the square
unfoldable pub powered : ℕ → ℕ → ℕ → ℕ
powered zero s p = p
powered (suc n) s p = powered n (product s s) (product p (product s s))

-- the 254th power of each number other than 0 is its partner, computed
inverse-at : ℕ → Bool
inverse-at k = product (suc k) (powered 7 (suc k) 1) == 1

inverse-test : T (every inverse-at 255)
unfolding powered inverse-at
inverse-test = tt

powered-below : (n s p : ℕ) → s < 256 → p < 256 → powered n s p < 256
unfolding powered
powered-below zero s p hs hp = hp
powered-below (suc n) s p hs hp =
    let square = times_below s s hs hs in
    powered-below n (product s s) (product p (product s s)) square (times_below p (product s s) hp square)

pub powered-step : (n s p : ℕ) → 0 < n → powered (n - 1) (product s s) (product p (product s s)) ≡ powered n s p
unfolding powered
powered-step zero s p h = absurd (omega arith)
powered-step (suc n) s p h = let e : suc n - 1 ≡ n = omega arith in ap (λ m. powered m (product s s) (product p (product s s))) e

power-times : (a : ℕ) → a < 256 → 0 < a → product a (powered 7 a 1) ≡ 1
unfolding inverse-at
power-times zero h pos = absurd (omega arith)
power-times (suc k) h pos = eqb→eq (product (suc k) (powered 7 (suc k) 1)) 1 (every-at inverse-at 255 inverse-test k (omega arith))

pub bytes-sizes : Sizes bytes
bytes-sizes = record { low = omega arith; high = omega arith }

pub bytes-sums : Sums bytes
bytes-sums = record {
  below = λ a b ha hb. xor_lt 8 a b ha hb;
  commutes = λ a b ha hb. xor_comm a b;
  associates = λ a b c ha hb hc. xor_assoc a b c;
  zero = λ a ha. xor_zero_l a;
  opposite_below = λ a ha. ha;
  opposite = λ a ha. xor_self a;
}

pub bytes-products : Products bytes
bytes-products = record {
  below = times_below;
  commutes = times_comm;
  associates = times_assoc;
  distributes = λ a b c ha hb hc. times-linear_r a b c;
  one = one-times;
}

inverse-times : (a : ℕ) → a < 256 → 0 < a → product a (partner 256 product a) ≡ 1
inverse-times a h pos = partner-times 256 product a (powered 7 a 1) (powered-below 7 a 1 h (omega arith)) (power-times a h pos)

inverse_below : (a : ℕ) → partner 256 product a < 256
inverse_below a = partner-below 256 product a (omega arith)

pub bytes-inverses : Inverses bytes
bytes-inverses = record {
  below = λ a ha. inverse_below a;
  inverse = inverse-times;
}

-- two partners of one number are one, so the 254th power is the partner
pub power-is : (a : ℕ) → a < 256 → 0 < a → powered 7 a 1 ≡ partner 256 product a
power-is a ha pos =
    let b = powered 7 a 1 in
    let c = partner 256 product a in
    let hb : b < 256 = powered-below 7 a 1 ha (omega arith) in
    let hc = inverse_below a in
    sym (one-times b hb) ∙ ap (λ k. product k b) (sym (inverse-times a ha pos) ∙ times_comm a c ha hc) ∙ times_assoc c a b hc ha hb
    ∙ ap (product c) (power-times a ha pos) ∙ times_comm c 1 hc (omega arith) ∙ one-times c hc

pub powered-none : (s p : ℕ) → powered 0 s p ≡ p
unfolding powered
powered-none s p = refl
