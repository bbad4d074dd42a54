-- The remainder by the polynomial 285 is the only one, and the code's steps toward it.
use Rattle.std.proofs.Common.{◌≡◌, ℕ, zero, suc, ◌+◌, ◌-◌, ◌*◌, ◌/◌, ◌%◌, ◌^◌, ◌<◌, ◌≤◌, Bool, ◌&&◌, T, eqb, ltb, leb, List, [], ◌∷◌, get_or, sym, refl, ap, ◌∙◌, subst, lt_of_lt_of_le, mod-eq_of_lt, arith, eqb→eq, ltb→lt, leb→le, shl_lt}
use native.Mathlib.Nat.{pow-le-pow_right}
use lib.Bits.{bit_xor, xor_zero_l, xor_zero_r, xor_assoc, xor_self, xor_lt}
use Rattle.fields.specs.Binary.{carryless, remainder, Remains}
use Rattle.fields.specs.Linearity.{by_bits, exchange, carryless-linear_r, remainder-linear}
use Rattle.fields.specs.Computed.{every, every-at, and_left, and_right}

-- x is the remainder with a multiple of 285 added
abbrev Divided : ℕ → Type 0
Divided x = (k : ℕ) × (k < 256) × (remainder 285 8 x < 256) × (x ≡ bit_xor (carryless 8 285 k) (remainder 285 8 x))

-- the quotient by 285 of each power of 2, computed
quotients : List ℕ
quotients = 0 ∷ 0 ∷ 0 ∷ 0 ∷ 0 ∷ 0 ∷ 0 ∷ 0 ∷ 1 ∷ 2 ∷ 4 ∷ 8 ∷ 17 ∷ 35 ∷ 71 ∷ 142 ∷ []

quotient_at : ℕ → Bool
quotient_at i =
    ltb (get_or quotients i 0) 256
    && (ltb (remainder 285 8 (2 ^ i)) 256
    && eqb (2 ^ i) (bit_xor (carryless 8 285 (get_or quotients i 0)) (remainder 285 8 (2 ^ i))))

quotient-test : T (every quotient_at 16)
unfolding quotients quotient_at
quotient-test = tt

divided-power : (i : ℕ) → i < 16 → Divided (2 ^ i)
unfolding quotient_at
divided-power i h =
    let k = get_or quotients i 0 in
    let r = remainder 285 8 (2 ^ i) in
    let t = every-at quotient_at 16 quotient-test i h in
    let rest = and_right (ltb k 256) (ltb r 256 && eqb (2 ^ i) (bit_xor (carryless 8 285 k) r)) t in (
      k,
      ltb→lt k 256 (and_left (ltb k 256) (ltb r 256 && eqb (2 ^ i) (bit_xor (carryless 8 285 k) r)) t),
      ltb→lt r 256 (and_left (ltb r 256) (eqb (2 ^ i) (bit_xor (carryless 8 285 k) r)) rest),
      eqb→eq (2 ^ i) (bit_xor (carryless 8 285 k) r) (and_right (ltb r 256) (eqb (2 ^ i) (bit_xor (carryless 8 285 k) r)) rest),
    )

divided-sum : (x y : ℕ) → Divided x → Divided y → Divided (bit_xor x y)
divided-sum x y m n =
    let k = m.0 in
    let l = n.0 in
    let R = remainder 285 8 in
    let P = carryless 8 285 in (
      bit_xor k l,
      xor_lt 8 k l m.1 n.1,
      subst (λ v. v < 256) (sym (remainder-linear 285 8 x y)) (xor_lt 8 (R x) (R y) m.2 n.2),
      ap (λ v. bit_xor v y) m.3 ∙ ap (bit_xor (bit_xor (P k) (R x))) n.3 ∙ exchange (P k) (R x) (P l) (R y)
          ∙ sym (ap (λ v. bit_xor v (R (bit_xor x y))) (carryless-linear_r 8 285 k l) ∙ ap (bit_xor (bit_xor (P k) (P l))) (remainder-linear 285 8 x y)),
    )

divided : (x : ℕ) → x < 2 ^ 16 → Divided x
divided x h = by_bits Divided (0, omega arith, omega arith, refl) divided-sum 16 divided-power x h

-- a multiple of 285 other than 0 is 256 or more, computed
multiple_at : ℕ → Bool
multiple_at k = leb 256 (carryless 8 285 (suc k))

multiple_test : T (every multiple_at 255)
unfolding multiple_at
multiple_test = tt

multiple_zero : (k : ℕ) → k < 256 → carryless 8 285 k < 256 → k ≡ 0
unfolding multiple_at
multiple_zero zero h few = refl
multiple_zero (suc k) h few = let large : 256 ≤ carryless 8 285 (suc k) = leb→le 256 (carryless 8 285 (suc k)) (every-at multiple_at 255 multiple_test k (omega arith)) in absurd (omega arith)

xor_same : (a b : ℕ) → bit_xor a b ≡ 0 → a ≡ b
xor_same a b e = sym (xor_zero_r a) ∙ ap (bit_xor a) (sym e) ∙ sym (xor_assoc a a b) ∙ ap (λ v. bit_xor v b) (xor_self a) ∙ xor_zero_l b

only_one : (k l r s : ℕ) → k < 256 → l < 256 → r < 256 → s < 256 → bit_xor (carryless 8 285 k) s ≡ bit_xor (carryless 8 285 l) r → s ≡ r
only_one k l r s hk hl hr hs e =
    let P = carryless 8 285 in
    let none : bit_xor (P (bit_xor k l)) (bit_xor s r) ≡ 0 =
    ap (λ v. bit_xor v (bit_xor s r)) (carryless-linear_r 8 285 k l) ∙ exchange (P k) (P l) s r ∙ ap (λ v. bit_xor v (bit_xor (P l) r)) e ∙ xor_self (bit_xor (P l) r) in
    let same : P (bit_xor k l) ≡ bit_xor s r = xor_same (P (bit_xor k l)) (bit_xor s r) none in
    let zeroed : bit_xor k l ≡ 0 = multiple_zero (bit_xor k l) (xor_lt 8 k l hk hl) (subst (λ v. v < 256) (sym same) (xor_lt 8 s r hs hr)) in
    xor_same s r (sym same ∙ ap P zeroed)

pub remains : (x : ℕ) → x < 2 ^ 16 → Remains x (remainder 285 8 x)
remains x h =
    let d = divided x h in
    record {
      quotient = d.0;
      quotient_below = d.1;
      below = d.2;
      divided = d.3;
      only = λ k s hk hs e. only_one k d.0 (remainder 285 8 x) s hk d.1 d.2 hs (sym e ∙ d.3);
    }

-- the steps of the code

pub shift_below : (j a i : ℕ) → a < 2 ^ j → j + i ≤ 16 → a * 2 ^ i < 65536
shift_below j a i h few = lt_of_lt_of_le (shl_lt j i h) (pow-le-pow_right {n = 2} (omega arith) few)

pub remainder-step : (p x y i : ℕ) → p < 512 → 0 < i → i ≤ 8 → remainder p i y ≡ remainder p 8 x
    → remainder p (i - 1) (bit_xor y (y / 2 ^ (8 + (i - 1)) % 2 * (p * 2 ^ (i - 1) % 65536))) ≡ remainder p 8 x
remainder-step p x y i low pos few e =
    let j = i - 1 in
    let next : i ≡ suc j = omega arith in
    let kept : p * 2 ^ j % 65536 ≡ p * 2 ^ j = mod-eq_of_lt (shift_below 9 p j low (omega arith)) in
    ap (λ k. remainder p j (bit_xor y (y / 2 ^ (8 + j) % 2 * k))) kept ∙ sym (ap (λ k. remainder p k y) next) ∙ e
