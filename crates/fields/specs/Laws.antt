-- The laws of a field, each for all numbers below its size.
use Rattle.std.specs.Prelude.{◌≡◌, ℕ, ◌<◌, ◌≤◌}
use Rattle.fields.specs.Arithmetic.{Arithmetic}

-- the size is from 2 to 65,536
pub record Sizes (F : Arithmetic) : Type 0 where
  pub low : 2 ≤ F.order
  pub high : F.order ≤ 65536

-- sums commute and associate, 0 added changes nothing, and a number plus its opposite is 0
pub record Sums (F : Arithmetic) : Type 0 where
  pub below : (a b : ℕ) → a < F.order → b < F.order → F.plus a b < F.order
  pub commutes : (a b : ℕ) → a < F.order → b < F.order → F.plus a b ≡ F.plus b a
  pub associates : (a b c : ℕ) → a < F.order → b < F.order → c < F.order → F.plus (F.plus a b) c ≡ F.plus a (F.plus b c)
  pub zero : (a : ℕ) → a < F.order → F.plus 0 a ≡ a
  pub opposite_below : (a : ℕ) → a < F.order → F.opposite a < F.order
  pub opposite : (a : ℕ) → a < F.order → F.plus a (F.opposite a) ≡ 0

-- products commute, associate and distribute over sums, and 1 multiplied changes nothing
pub record Products (F : Arithmetic) : Type 0 where
  pub below : (a b : ℕ) → a < F.order → b < F.order → F.times a b < F.order
  pub commutes : (a b : ℕ) → a < F.order → b < F.order → F.times a b ≡ F.times b a
  pub associates : (a b c : ℕ) → a < F.order → b < F.order → c < F.order → F.times (F.times a b) c ≡ F.times a (F.times b c)
  pub distributes : (a b c : ℕ) → a < F.order → b < F.order → c < F.order → F.times a (F.plus b c) ≡ F.plus (F.times a b) (F.times a c)
  pub one : (a : ℕ) → a < F.order → F.times 1 a ≡ a

-- a number other than 0 times its inverse is 1
pub record Inverses (F : Arithmetic) : Type 0 where
  pub below : (a : ℕ) → a < F.order → F.inverse a < F.order
  pub inverse : (a : ℕ) → a < F.order → 0 < a → F.times a (F.inverse a) ≡ 1

-- a field: an arithmetic that keeps all the laws
pub record Laws (F : Arithmetic) : Type 0 where
  pub sizes : Sizes F
  pub sums : Sums F
  pub products : Products F
  pub inverses : Inverses F
