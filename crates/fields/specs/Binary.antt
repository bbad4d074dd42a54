-- Polynomials over the two-element field, as numbers: bit i is the coefficient of the power i, and a sum is an exclusive or.
use Rattle.std.specs.Prelude.{◌≡◌, ℕ, zero, suc, ◌+◌, ◌*◌, ◌/◌, ◌%◌, ◌^◌, ◌<◌, bit_xor}
use Rattle.fields.specs.Arithmetic.{Arithmetic, partner}

-- the coefficient of the power i
abbrev pub bit : ℕ → ℕ → ℕ
bit i x = x / 2 ^ i % 2

-- the carry-less product of a and the n lowest bits of b: for each bit i of b that is 1, a times the power i
abbrev pub carryless : ℕ → ℕ → ℕ → ℕ
carryless zero a b = 0
carryless (suc n) a b = bit_xor (carryless n a b) (bit n b * (a * 2 ^ n))

-- what long division by a polynomial p of degree 8 leaves of x, whose powers are below 8 + n
abbrev pub remainder : ℕ → ℕ → ℕ → ℕ
remainder p zero x = x
remainder p (suc n) x = remainder p n (bit_xor x (bit (8 + n) x * (p * 2 ^ n)))

-- r is the remainder of x by 285: x = quotient × 285 + r with r below 256, and there is no other such remainder
pub record Remains (x r : ℕ) : Type 0 where
  pub quotient : ℕ
  pub quotient_below : quotient < 256
  pub below : r < 256
  pub divided : x ≡ bit_xor (carryless 8 285 quotient) r
  pub only : (k s : ℕ) → k < 256 → s < 256 → x ≡ bit_xor (carryless 8 285 k) s → s ≡ r

-- the product of two numbers below 256: the remainder by 285 of their carry-less product
abbrev pub product : ℕ → ℕ → ℕ
product a b = remainder 285 8 (carryless 8 a b)

-- the field of 256 elements; each is its own opposite
abbrev pub bytes : Arithmetic
bytes = record {
  order = 256;
  plus = bit_xor;
  opposite = λ a. a;
  times = product;
  inverse = partner 256 product;
}
