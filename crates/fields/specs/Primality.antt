-- The listed moduli are prime, by one test that is computed.
use Rattle.std.specs.Prelude.{◌≡◌, ℕ, ◌+◌, ◌-◌, ◌*◌, ◌/◌, ◌%◌, ◌<◌, ◌≤◌, Bool, true, not, ◌&&◌, ◌||◌, IsTrue, T, ◌⊎◌, List, [], ◌∷◌, ◌==◌, ◌≢◌, nat_le, nat_lt}
use Rattle.std.proofs.Common.{sym, ap, subst, ◌∙◌, inl, inr, lt_of_not-le, mul-le-mul, mul-le-mul_left, mul-le-mul_right, mul_comm, mul-one, two-mul, arith, T_not, eqb→eq, ltb→lt, leb→le}
use Rattle.std.proofs.Math.Nat.{mul-mod_right, mul-div_cancel'}
use Rattle.std.proofs.Math.Decide.{dec_le}
use Rattle.fields.specs.Laws.{Sizes}
use Rattle.fields.specs.Numbers.{among}
use Rattle.fields.specs.Primes.{IsPrime, moduli, listed, residues}
use Rattle.fields.specs.Computed.{every, every-at, and_left, and_right, or_cases}

-- no number from 2 to 255, and below p, divides p
abbrev misses : ℕ → ℕ → Bool
misses p k = nat_le p (k + 2) || not (p % (k + 2) == 0)

passes : ℕ → Bool
passes p = nat_lt 1 p && (nat_lt p 65536 && every (misses p) 254)

abbrev all_pass : List ℕ → Bool
all_pass [] = true
all_pass (m ∷ ms) = passes m && all_pass ms

moduli-pass : T (all_pass moduli)
unfolding passes
moduli-pass = tt

-- a divisor from 2 to 255 would fail the test
no_small : (p : ℕ) → T (every (misses p) 254) → (d k : ℕ) → 1 < d → d < p → d ≤ 255 → d * k ≢ p
no_small p h d k big small few e =
    let here : T (misses p (d - 2)) = every-at (misses p) 254 h (d - 2) (omega arith) in
    let back : d - 2 + 2 ≡ d = omega arith in
    let at-d : T (nat_le p d || not (p % d == 0)) = subst (λ j. T (nat_le p j || not (p % j == 0))) back here in
    let divides : p % d ≡ 0 = ap (λ n. n % d) (sym e) ∙ mul-mod_right d k in
    elim (or_cases (nat_le p d) (not (p % d == 0)) at-d) [
      | inl t ↦ (let le : p ≤ d = leb→le p d t in omega arith)
      | inr t ↦ T_not (p % d == 0) t (subst (λ n. T (n == 0)) (sym divides) tt)
    ]

le_or_lt : (a b : ℕ) → (a ≤ b) ⊎ (b < a)
le_or_lt a b = elim (dec_le a b) [ yes h ↦ inl h | no h ↦ inr (lt_of_not-le h) ]

passes_prime : (p : ℕ) → T (passes p) → IsPrime p
unfolding passes
passes_prime p h =
    let more : 1 < p = ltb→lt 1 p (and_left (nat_lt 1 p) _ h) in
    let rest = and_right (nat_lt 1 p) _ h in
    let few : p < 65536 = ltb→lt p 65536 (and_left (nat_lt p 65536) _ rest) in
    let test = and_right (nat_lt p 65536) _ rest in (
      more,
      λ d h.
          let big = h.0 in
          let small = h.1 in
          let k = p / d in
          let e : d * k ≡ p = mul-div_cancel' d h.2 in
          let k-big : 1 < k = elim (le_or_lt k 1) [ inl j ↦ absurd (omega (arith, mul-le-mul_left d j, mul-one d)) | inr j ↦ j ] in
          let k-small : k < p = omega (arith, e, mul-le-mul_right k big, two-mul k) in
          elim (le_or_lt d 255) [
            | inl j ↦ no_small p test d k big small j e
            | inr j ↦ elim (le_or_lt k 255) [
              | inl i ↦ no_small p test k d k-big k-small i (mul_comm k d ∙ e)
              | inr i ↦ (let large : 256 * 256 ≤ d * k = mul-le-mul j i in omega arith)
            ]
          ],
    )

prime_in : (n : ℕ) (ms : List ℕ) → T (all_pass ms) → T (among n ms) → IsPrime n
prime_in n [] h t = absurd t
prime_in n (m ∷ ms) h t =
    elim (or_cases (m == n) (among n ms) t) [
      | inl u ↦ subst IsPrime (eqb→eq m n u) (passes_prime m (and_left (passes m) (all_pass ms) h))
      | inr u ↦ prime_in n ms (and_right (passes m) (all_pass ms) h) u
    ]

pub listed-prime : (n : ℕ) → IsTrue (listed n) → IsPrime n
unfolding listed
listed-prime n t = prime_in n moduli moduli-pass (subst T (sym t) tt)

few-in : (n : ℕ) (ms : List ℕ) → T (all_pass ms) → T (among n ms) → n < 65536
unfolding passes
few-in n [] h t = absurd t
few-in n (m ∷ ms) h t =
    elim (or_cases (m == n) (among n ms) t) [
      | inl u ↦ subst (λ k. k < 65536) (eqb→eq m n u) (ltb→lt m 65536 (and_left (nat_lt m 65536) _ (and_right (nat_lt 1 m) _ (and_left (passes m) (all_pass ms) h))))
      | inr u ↦ few-in n ms (and_right (passes m) (all_pass ms) h) u
    ]

pub listed-sizes : {p : ℕ} → IsPrime p → IsTrue (listed p) → Sizes (residues p)
unfolding listed
listed-sizes {p} prime t = let h : p < 65536 = few-in p moduli moduli-pass (subst T (sym t) tt) in record { low = prime.0; high = omega arith }
