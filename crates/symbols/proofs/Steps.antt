-- Powers, a step further.
use Rattle.std.proofs.Common.{◌≡◌, ℕ, suc, ◌+◌, ap, arith}
use Rattle.fields.specs.Arithmetic.{Arithmetic}
use Rattle.symbols.specs.Symbols.{power}

pub power-more : (F : Arithmetic) (x i : ℕ) → F.times (power F x i) x ≡ power F x (i + 1)
power-more F x i = let e : suc i ≡ i + 1 = omega arith in ap (power F x) e
