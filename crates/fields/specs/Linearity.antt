-- Functions that are linear over exclusive or, as the carry-less product and the remainder are, agree where they agree on the powers of 2.
use Rattle.std.specs.Prelude.{◌≡◌, ℕ, zero, suc, ◌+◌, ◌*◌, ◌/◌, ◌%◌, ◌^◌, ◌<◌, bit_xor, refl}
use Rattle.std.proofs.Common.{sym, ap, subst, ◌∙◌, add-zero, zero-mul, one-mul, mod-lt, one-add, arith, shr_lt, pow_pos}
use Rattle.std.specs.Int.Bits.{xor_zero_l, xor_zero_r, xor_assoc, xor_self, xor_shifted}
use Rattle.std.proofs.lemmas.Nat.{xor_comm, xor_shr, xor_mod, xor_block}
use Rattle.std.proofs.Math.Pow.{split}
use Rattle.fields.specs.Binary.{bit, carryless, remainder, product}

-- what holds of 0, of each power of 2 below 2 ^ n and of the sum of two numbers of which it holds, holds below 2 ^ n
by_top : (P : ℕ → Type 0) → P 0 → (n : ℕ) → P (2 ^ n) → (q : ℕ) → q < 2 → P (q * 2 ^ n)
by_top P none n here zero h = subst P (sym (zero-mul (2 ^ n))) none
by_top P none n here (suc zero) h = subst P (sym (one-mul (2 ^ n))) here
by_top P none n here (suc (suc q)) h = absurd (omega arith)

pub by_bits : (P : ℕ → Type 0) → P 0 → ((x y : ℕ) → P x → P y → P (bit_xor x y)) → (n : ℕ) → ((i : ℕ) → i < n → P (2 ^ i)) → (a : ℕ) → a < 2 ^ n → P a
by_bits P none both zero at a h = subst P (omega arith) none
by_bits P none both (suc n) at a h =
    let q = a / 2 ^ n in
    let r = a % 2 ^ n in
    let hr : r < 2 ^ n = mod-lt a (pow_pos n) in
    let hq : q < 2 = shr_lt 1 n (subst (λ k. a < 2 ^ k) (sym (one-add n)) h) in
    let whole : bit_xor (q * 2 ^ n) r ≡ a = xor_shifted q n r hr ∙ split a n in
    subst P whole (both (q * 2 ^ n) r (by_top P none n (at n (omega arith)) q hq) (by_bits P none both n (λ i k. at i (omega arith)) r hr))

abbrev pub Linear : (ℕ → ℕ) → Type 0
Linear f = (x y : ℕ) → f (bit_xor x y) ≡ bit_xor (f x) (f y)

pub linear_zero : (f : ℕ → ℕ) → Linear f → f 0 ≡ 0
linear_zero f l = l 0 0 ∙ xor_self (f 0)

-- two linear functions that agree at the powers of 2 agree
pub agree : (f g : ℕ → ℕ) → Linear f → Linear g → (n : ℕ) → ((i : ℕ) → i < n → f (2 ^ i) ≡ g (2 ^ i)) → (a : ℕ) → a < 2 ^ n → f a ≡ g a
agree f g lf lg n at a h =
    by_bits (λ x. f x ≡ g x) (linear_zero f lf ∙ sym (linear_zero g lg))
    (λ x y p q. lf x y ∙ ap (λ k. bit_xor k (f y)) p ∙ ap (bit_xor (g x)) q ∙ sym (lg x y)) n at a h

-- (a + b) + (c + d) = (a + c) + (b + d)
pub exchange : (a b c d : ℕ) → bit_xor (bit_xor a b) (bit_xor c d) ≡ bit_xor (bit_xor a c) (bit_xor b d)
exchange a b c d =
    xor_assoc a b (bit_xor c d)
    ∙ ap (bit_xor a) (sym (xor_assoc b c d) ∙ ap (λ k. bit_xor k d) (xor_comm b c) ∙ xor_assoc c b d)
    ∙ sym (xor_assoc a c (bit_xor b d))

scale : (p q c : ℕ) → p < 2 → q < 2 → bit_xor p q * c ≡ bit_xor (p * c) (q * c)
scale zero q c hp hq = ap (λ k. k * c) (xor_zero_l q) ∙ sym (ap (λ k. bit_xor k (q * c)) (zero-mul c) ∙ xor_zero_l (q * c))
scale (suc zero) zero c hp hq = sym (ap (bit_xor (1 * c)) (zero-mul c) ∙ xor_zero_r (1 * c))
scale (suc zero) (suc zero) c hp hq = zero-mul c ∙ sym (xor_self (1 * c))
scale (suc zero) (suc (suc q)) c hp hq = absurd (omega arith)
scale (suc (suc p)) q c hp hq = absurd (omega arith)

bit-linear : (i : ℕ) → Linear (bit i)
bit-linear i x y = ap (λ k. k % 2) (xor_shr x y i) ∙ xor_mod (x / 2 ^ i) (y / 2 ^ i) 1

bit_below : (i x : ℕ) → bit i x < 2
bit_below i x = mod-lt (x / 2 ^ i) (omega arith)

bit-times_linear : (i c : ℕ) → Linear (λ x. bit i x * c)
bit-times_linear i c x y = ap (λ k. k * c) (bit-linear i x y) ∙ scale (bit i x) (bit i y) c (bit_below i x) (bit_below i y)

shift_linear : (i : ℕ) → Linear (λ x. x * 2 ^ i)
shift_linear i x y =
    sym (ap (λ k. bit_xor k (y * 2 ^ i)) (sym (add-zero (x * 2 ^ i))) ∙ ap (bit_xor (x * 2 ^ i + 0)) (sym (add-zero (y * 2 ^ i)))
    ∙ xor_block i x y 0 0 (pow_pos i) (pow_pos i) ∙ add-zero (bit_xor x y * 2 ^ i))

times-bit_linear : (p : ℕ) → p < 2 → Linear (λ x. p * x)
times-bit_linear zero h x y = zero-mul (bit_xor x y) ∙ sym (ap (λ k. bit_xor k (0 * y)) (zero-mul x) ∙ xor_zero_l (0 * y) ∙ zero-mul y)
times-bit_linear (suc zero) h x y = one-mul (bit_xor x y) ∙ sym (ap (λ k. bit_xor k (1 * y)) (one-mul x) ∙ ap (bit_xor x) (one-mul y))
times-bit_linear (suc (suc p)) h x y = absurd (omega arith)

both_linear : (f g : ℕ → ℕ) → Linear f → Linear g → Linear (λ x. bit_xor (f x) (g x))
both_linear f g lf lg x y =
    ap (λ k. bit_xor k (g (bit_xor x y))) (lf x y) ∙ ap (bit_xor (bit_xor (f x) (f y))) (lg x y) ∙ exchange (f x) (f y) (g x) (g y)

pub then_linear : (f g : ℕ → ℕ) → Linear f → Linear g → Linear (λ x. g (f x))
then_linear f g lf lg x y = ap g (lf x y) ∙ lg (f x) (f y)

pub carryless-linear_r : (n a : ℕ) → Linear (carryless n a)
carryless-linear_r zero a = λ x y. refl
carryless-linear_r (suc n) a = both_linear (carryless n a) (λ b. bit n b * (a * 2 ^ n)) (carryless-linear_r n a) (bit-times_linear n (a * 2 ^ n))

pub carryless-linear_l : (n b : ℕ) → Linear (λ a. carryless n a b)
carryless-linear_l zero b = λ x y. refl
carryless-linear_l (suc n) b =
    both_linear (λ a. carryless n a b) (λ a. bit n b * (a * 2 ^ n)) (carryless-linear_l n b)
    (then_linear (λ a. a * 2 ^ n) (λ k. bit n b * k) (shift_linear n) (times-bit_linear (bit n b) (bit_below n b)))

pub remainder-linear : (p n : ℕ) → Linear (remainder p n)
remainder-linear p zero = λ x y. refl
remainder-linear p (suc n) =
    then_linear (λ x. bit_xor x (bit (8 + n) x * (p * 2 ^ n))) (remainder p n)
    (both_linear (λ x. x) (λ x. bit (8 + n) x * (p * 2 ^ n)) (λ x y. refl) (bit-times_linear (8 + n) (p * 2 ^ n))) (remainder-linear p n)

pub times-linear_r : (a : ℕ) → Linear (product a)
times-linear_r a = then_linear (carryless 8 a) (remainder 285 8) (carryless-linear_r 8 a) (remainder-linear 285 8)

pub times-linear_l : (b : ℕ) → Linear (λ a. product a b)
times-linear_l b = then_linear (λ a. carryless 8 a b) (remainder 285 8) (carryless-linear_l 8 b) (remainder-linear 285 8)
