-- What a field computes: a size, and four operations on numbers.
use Rattle.std.specs.Prelude.{ℕ, zero, suc, Bool, cond, Some, None, Option, ◌==◌, nat_eq, nat_lt}

pub record Arithmetic : Type 0 where
  -- the size q: the field's numbers are those below it
  pub order : ℕ
  pub plus : ℕ → ℕ → ℕ
  pub opposite : ℕ → ℕ
  pub times : ℕ → ℕ → ℕ
  pub inverse : ℕ → ℕ

-- an argument that is not below q counts as 0
abbrev pub counted : ℕ → ℕ → ℕ
counted q a = cond (nat_lt a q) a 0

-- the operations on all numbers, where an argument that is not below the order counts as 0
abbrev pub total : Arithmetic → Arithmetic
total F = record {
  order = F.order;
  plus = λ a b. F.plus (counted F.order a) (counted F.order b);
  opposite = λ a. F.opposite (counted F.order a);
  times = λ a b. F.times (counted F.order a) (counted F.order b);
  inverse = λ a. F.inverse (counted F.order a);
}

-- the inverse of any number, absent exactly where that number counts as 0
abbrev pub inverted : Arithmetic → ℕ → Option ℕ
inverted F a = cond (counted F.order a == 0) None (Some ((total F).inverse a))

-- the largest number below n that passes a test, or 0 where none does
abbrev pub found : (ℕ → Bool) → ℕ → ℕ
found test zero = 0
found test (suc n) = cond (test n) n (found test n)

-- the number below q whose product with a is 1, or 0 where there is none
unfoldable pub partner : ℕ → (ℕ → ℕ → ℕ) → ℕ → ℕ
partner q times a = found (λ b. nat_eq (times a b) 1) q
