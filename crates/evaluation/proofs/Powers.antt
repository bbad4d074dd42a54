-- The numbers of an equation's row.
use Rattle.std.proofs.Common.{◌≡◌, ℕ, zero, suc, ◌+◌, ◌<◌, length, get_or, sym, refl, ap, ◌∙◌, arith}
use Rattle.fields.specs.Arithmetic.{Arithmetic}
use Rattle.evaluation.specs.Decoding.{power, powers}

power-suc : (F : Arithmetic) (c x i : ℕ) → power F c x (suc i) ≡ F.times (power F c x i) x
power-suc F c x zero = refl
power-suc F c x (suc i) = power-suc F (F.times c x) x i

pub power-more : (F : Arithmetic) (c x i : ℕ) → F.times (power F c x i) x ≡ power F c x (i + 1)
power-more F c x i = let e : suc i ≡ i + 1 = omega arith in sym (power-suc F c x i) ∙ ap (power F c x) e

pub get_or-powers : (F : Arithmetic) (n c x i : ℕ) → i < n → get_or (powers F c x n) i 0 ≡ power F c x i
get_or-powers F zero c x i h = absurd (omega arith)
get_or-powers F (suc n) c x zero h = refl
get_or-powers F (suc n) c x (suc i) h = get_or-powers F n (F.times c x) x i (omega arith)

pub length-powers : (F : Arithmetic) (n c x : ℕ) → length (powers F c x n) ≡ n
length-powers F zero c x = refl
length-powers F (suc n) c x = ap suc (length-powers F n (F.times c x) x)
