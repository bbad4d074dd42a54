-- Remainders by a prime number are a field.
use Rattle.std.specs.Prelude.{◌≡◌, ℕ, zero, suc, ◌+◌, ◌-◌, ◌*◌, ◌/◌, ◌%◌, ◌<◌}
use Rattle.std.proofs.Common.{sym, ap, ◌∙◌, inl, inr, mod-lt, mod-eq_of_lt, add_comm, add_assoc, zero-add, mul_comm, mul_assoc, mul-one, one-mul, mul-add, add-mul, eq-or-lt_of_le, eq-zero-or-pos, arith}
use Rattle.std.proofs.Math.Nat.{mod_self, mod-add-mod, add-mod-mod, add-mod, mod-add-div, div-add-mod, dvd_of_mod-eq-zero, add-mul-mod_self_left, mul-sub}
use Rattle.fields.specs.Arithmetic.{partner}
use Rattle.fields.specs.Laws.{Sums, Products, Inverses}
use Rattle.fields.specs.Primes.{IsPrime, residues}
use Rattle.fields.specs.Search.{partner-below, partner-times}

-- a factor may be reduced before the product
pub mul_mod_l : (a b m : ℕ) → (a % m * b) % m ≡ (a * b) % m
mul_mod_l a b m =
    sym (ap (λ n. (n * b) % m) (sym (mod-add-div a m))
    ∙ ap (λ n. n % m) (add-mul (a % m) (m * (a / m)) b ∙ ap (λ n. a % m * b + n) (mul_assoc m (a / m) b))
    ∙ add-mul-mod_self_left (a % m * b) m (a / m * b))

pub mul_mod_r : (a b m : ℕ) → (a * (b % m)) % m ≡ (a * b) % m
mul_mod_r a b m = ap (λ n. n % m) (mul_comm a (b % m)) ∙ mul_mod_l b a m ∙ ap (λ n. n % m) (mul_comm b a)

-- the product of two remainders by p
abbrev pub times_by : ℕ → ℕ → ℕ → ℕ
times_by p = λ a b. (a * b) % p

module _ {p : ℕ} (prime : IsPrime p) where
  positive : 0 < p
  positive = omega (arith, prime.0)

  -- a number between 1 and p leaves a remainder of p other than 0
  pub remainder-positive : (n : ℕ) → 1 < n → n < p → 0 < p % n
  remainder-positive n big small =
      elim (eq-zero-or-pos (p % n)) [
        | inl e ↦ absurd (prime.1 n (big, small, dvd_of_mod-eq-zero n e))
        | inr h ↦ h
      ]

  -- n times the opposite of p / n leaves p % n
  pub falls : (n : ℕ) → 1 < n → n < p → (n * (p - p / n)) % p ≡ p % n
  falls n big small =
      let rem : p % n < n = mod-lt p (omega arith) in
      let whole : n * (p / n) + p % n ≡ p = div-add-mod p n in
      let spread : n * (p - p / n) ≡ n * p - n * (p / n) = mul-sub n p (p / n) in
      let one_less : n * p ≡ (n - 1) * p + p = ap (λ k. k * p) (omega arith) ∙ add-mul (n - 1) 1 p ∙ ap (λ k. (n - 1) * p + k) (one-mul p) in
      let turned : n * (p - p / n) ≡ p % n + p * (n - 1) = omega (arith, spread, one_less, whole, mul_comm (n - 1) p) in
      ap (λ k. k % p) turned ∙ add-mul-mod_self_left (p % n) p (n - 1) ∙ mod-eq_of_lt (omega arith)

  -- each number from 1 below p has a partner: by descent, n, p % n, ..
  descent : (fuel n : ℕ) → n < fuel → 0 < n → n < p → (b : ℕ) × (b < p) × ((n * b) % p ≡ 1)
  descent zero n less pos small = absurd (omega arith)
  descent (suc fuel) n less pos small =
      elim (eq-or-lt_of_le pos) [
        | inl e ↦ (1, (omega (arith, prime.0)), ap (λ k. (k * 1) % p) (sym e) ∙ mod-eq_of_lt prime.0)
        | inr big ↦ (
            let rem : p % n < n = mod-lt p pos in
            let next = descent fuel (p % n) (omega arith) (remainder-positive n big small) (omega arith) in
            let b = next.0 in (
              ((p - p / n) * b) % p,
              mod-lt ((p - p / n) * b) positive,
              mul_mod_r n ((p - p / n) * b) p
                  ∙ ap (λ k. k % p) (sym (mul_assoc n (p - p / n) b))
                  ∙ sym (mul_mod_l (n * (p - p / n)) b p)
                  ∙ ap (λ k. (k * b) % p) (falls n big small)
                  ∙ next.2,
            ))
      ]

  -- the turn from n to p % n, and from u to u times the opposite of p / n, keeps a * u % p ≡ n
  pub turn : (a u n : ℕ) → 1 < n → n < p → (a * u) % p ≡ n → (a * ((u * (p - p / n)) % p)) % p ≡ p % n
  turn a u n big small e =
      let v = p - p / n in
      mul_mod_r a (u * v) p ∙ ap (λ k. k % p) (sym (mul_assoc a u v)) ∙ sym (mul_mod_l (a * u) v p) ∙ ap (λ k. (k * v) % p) e ∙ falls n big small

  -- two partners of one number are one
  pub partner-unique : (a b c : ℕ) → b < p → c < p → (a * b) % p ≡ 1 → (a * c) % p ≡ 1 → b ≡ c
  partner-unique a b c hb hc eb ec =
      let via : (b * (a * c)) % p ≡ b =
      sym (mul_mod_r b (a * c) p) ∙ ap (λ k. (b * k) % p) ec ∙ ap (λ k. k % p) (mul-one b) ∙ mod-eq_of_lt hb in
      let swap : b * (a * c) ≡ (a * b) * c = sym (mul_assoc b a c) ∙ ap (λ k. k * c) (mul_comm b a) in
      sym via ∙ ap (λ k. k % p) swap ∙ sym (mul_mod_l (a * b) c p) ∙ ap (λ k. (k * c) % p) eb ∙ ap (λ k. k % p) (one-mul c) ∙ mod-eq_of_lt hc

  pub inverse-times : (a : ℕ) → a < p → 0 < a → (a * partner p (times_by p) a) % p ≡ 1
  inverse-times a h pos = let w = descent (suc a) a (omega arith) pos h in partner-times p (times_by p) a w.0 w.1 w.2

  pub inverse-is : (a b : ℕ) → a < p → 0 < a → b < p → (a * b) % p ≡ 1 → b ≡ partner p (times_by p) a
  inverse-is a b h pos hb e = partner-unique a b (partner p (times_by p) a) hb (partner-below p (times_by p) a positive) e (inverse-times a h pos)

-- remainders by a prime number keep the laws of a field

pub residues-sums : {p : ℕ} → IsPrime p → Sums (residues p)
residues-sums {p} prime =
    let pos : 0 < p = omega (arith, prime.0) in
    record {
      below = λ a b ha hb. mod-lt (a + b) pos;
      commutes = λ a b ha hb. ap (λ n. n % p) (add_comm a b);
      associates = λ a b c ha hb hc. mod-add-mod (a + b) p c ∙ ap (λ n. n % p) (add_assoc a b c) ∙ sym (add-mod-mod a (b + c) p);
      zero = λ a ha. ap (λ n. n % p) (zero-add a) ∙ mod-eq_of_lt ha;
      opposite_below = λ a ha. mod-lt (p - a) pos;
      opposite = λ a ha. add-mod-mod a (p - a) p ∙ ap (λ n. n % p) (omega arith) ∙ mod_self p;
    }

pub residues-products : {p : ℕ} → IsPrime p → Products (residues p)
residues-products {p} prime =
    let pos : 0 < p = omega (arith, prime.0) in
    record {
      below = λ a b ha hb. mod-lt (a * b) pos;
      commutes = λ a b ha hb. ap (λ n. n % p) (mul_comm a b);
      associates = λ a b c ha hb hc. mul_mod_l (a * b) c p ∙ ap (λ n. n % p) (mul_assoc a b c) ∙ sym (mul_mod_r a (b * c) p);
      distributes = λ a b c ha hb hc. mul_mod_r a (b + c) p ∙ ap (λ n. n % p) (mul-add a b c) ∙ add-mod (a * b) (a * c) p;
      one = λ a ha. ap (λ n. n % p) (one-mul a) ∙ mod-eq_of_lt ha;
    }

pub residues-inverses : {p : ℕ} → IsPrime p → Inverses (residues p)
residues-inverses {p} prime =
    record {
      below = λ a ha. partner-below p (times_by p) a (omega (arith, prime.0));
      inverse = λ a ha pos. inverse-times prime a ha pos;
    }
