-- Division of polynomials with a remainder.
use Rattle.std.specs.Prelude.{◌≡◌, ℕ, ◌+◌, ◌<◌, ◌≢◌, List, length, drop, Some, None, Ok, Err, Option, ◌==◌, slice_index}
use Rattle.fields.specs.Arithmetic.{Arithmetic}
use Rattle.fields.specs.Numbers.{Below, Zeros}
use Rattle.fields.specs.Checks.{Check, unless, and_then, unless_found, stray}
use Rattle.linear.specs.Checks.{nonzero}
use Rattle.linear.specs.Polynomials.{value, added, product, Same}
use Rattle.linear.specs.declared.fault.DivideFault.{DivideFault}
use Rattle.linear.specs.declared.fault.DivideFault.TheVariants.{Length, Dividend, Divisor, Zero}

-- the place of the highest number other than 0, or none where all are 0
abbrev pub Highest : List ℕ → Option ℕ → Type 0
Highest s None = Zeros s
Highest s (Some l) = (l < length s) × (slice_index s l ≢ 0) × Zeros (drop (l + 1) s)

-- the numbers of the divisor s are below q, and its highest other than 0 stands at `lead`
pub record Leads (q lead : ℕ) (s : List ℕ) : Type 0 where
  pub below : Below q s
  pub highest : Highest s (Some lead)

-- the degree of r is below that of s: from some place with a number other than 0 in s on, r has zeros
abbrev pub Shorter : List ℕ → List ℕ → Type 0
Shorter r s = (l : ℕ) × (slice_index s l ≢ 0) × Zeros (drop l r)

-- p = quotient × s + remainder, with a remainder of a degree below that of s
pub record Divided (F : Arithmetic) (p s quotient remainder : List ℕ) : Type 0 where
  pub whole : Same p (added F (product F quotient s) remainder)
  pub values : (x : ℕ) → value F p x ≡ F.plus (F.times (value F quotient x) (value F s x)) (value F remainder x)
  pub shorter : Shorter remainder s
  pub quotient_long : length quotient ≡ length p
  pub remainder_long : length remainder ≡ length p
  pub quotient_below : Below F.order quotient
  pub remainder_below : Below F.order remainder
  -- there are no other two such lists
  pub alone : (a b : List ℕ) → length a ≡ length p → length b ≡ length p → Below F.order a → Below F.order b → Same p (added F (product F a s) b) → Shorter b s → (a ≡ quotient) × (b ≡ remainder)

-- room for a quotient as long as p, and numbers below q in p and in s
abbrev pub numbers_check : ℕ → List ℕ → List ℕ → ℕ → Check DivideFault
numbers_check q p s room =
    unless (room == length p) Length
    (unless_found (stray q p) Dividend
    (unless_found (stray q s) Divisor (Ok tt)))

-- and a divisor other than 0
abbrev pub divide_check : ℕ → List ℕ → List ℕ → ℕ → Check DivideFault
divide_check q p s room = and_then (numbers_check q p s room) (unless (nonzero s) Zero (Ok tt))

-- what a division leaves in the dividend's buffer and in the quotient's: the remainder and the quotient, or what they held where it is refused
abbrev pub Answered : Arithmetic → (p p' s old new : List ℕ) → Check DivideFault → Type 0
Answered F p p' s old new (Ok u) = Divided F p s new p'
Answered F p p' s old new (Err fault) = (p' ≡ p) × (new ≡ old)
