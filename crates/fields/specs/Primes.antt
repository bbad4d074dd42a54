-- Prime numbers, the listed ones, and the arithmetic of remainders by a number.
use Rattle.std.specs.Prelude.{ℕ, ◌+◌, ◌-◌, ◌*◌, ◌%◌, ◌<◌, ◌≤◌, Bool, List, [], ◌∷◌}
use Rattle.std.specs.Int.{◌∣◌}
use Rattle.fields.specs.Arithmetic.{Arithmetic, partner}
use Rattle.fields.specs.Numbers.{among}

-- p is prime: at least 2, and no number strictly between 1 and p divides it
abbrev pub IsPrime : ℕ → Type 0
IsPrime p = (2 ≤ p) × ((d : ℕ) → (1 < d) × (d < p) × (d ∣ p) → ⊥)

-- the moduli that a prime field may have: the primes below 100, and three larger ones
abbrev pub moduli : List ℕ
moduli = 2 ∷ 3 ∷ 5 ∷ 7 ∷ 11 ∷ 13 ∷ 17 ∷ 19 ∷ 23 ∷ 29 ∷ 31 ∷ 37 ∷ 41 ∷ 43 ∷ 47 ∷ 53 ∷ 59 ∷ 61 ∷ 67 ∷ 71 ∷ 73 ∷ 79 ∷ 83 ∷ 89 ∷ 97 ∷ 929 ∷ 997 ∷ 65521 ∷ []

unfoldable pub listed : ℕ → Bool
listed n = among n moduli

-- the numbers below p, with remainders by p for answers
abbrev pub residues : ℕ → Arithmetic
residues p = record {
  order = p;
  plus = λ a b. (a + b) % p;
  opposite = λ a. (p - a) % p;
  times = λ a b. (a * b) % p;
  inverse = partner p (λ a b. (a * b) % p);
}
