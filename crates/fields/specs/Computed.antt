-- Tests that are computed at each number below a bound, and what they give.
use Rattle.std.specs.Prelude.{◌≡◌, ℕ, zero, suc, ◌<◌, Bool, true, false, ◌&&◌, ◌||◌, T, ◌⊎◌}
use Rattle.std.proofs.Common.{inl, inr, sym, subst, eq-or-lt_of_le, arith}

-- a test that passes at each number below n
abbrev pub every : (ℕ → Bool) → ℕ → Bool
every t zero = true
every t (suc n) = t n && every t n

pub and_left : (a b : Bool) → T (a && b) → T a
and_left true b h = tt
and_left false b h = h

pub and_right : (a b : Bool) → T (a && b) → T b
and_right true b h = h
and_right false b h = absurd h

pub or_cases : (a b : Bool) → T (a || b) → T a ⊎ T b
or_cases true b h = inl tt
or_cases false b h = inr h

pub every-at : (t : ℕ → Bool) (n : ℕ) → T (every t n) → (k : ℕ) → k < n → T (t k)
every-at t zero h k lt = absurd (omega arith)
every-at t (suc n) h k lt =
    elim (eq-or-lt_of_le lt) [
      | inl e ↦ (let same : k ≡ n = omega (arith, e) in subst (λ j. T (t j)) (sym same) (and_left (t n) (every t n) h))
      | inr lt' ↦ every-at t n (and_right (t n) (every t n) h) k (omega (arith, lt'))
    ]
