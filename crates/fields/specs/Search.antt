-- A search below a bound: it ends at a number that passes, if one does.
use Rattle.std.specs.Prelude.{◌≡◌, ℕ, zero, suc, ◌<◌, Bool, true, false, cond, T, ◌==◌, nat_eq, refl}
use Rattle.std.proofs.Common.{inl, inr, sym, subst, eq-or-lt_of_le, arith, eqb→eq}
use Rattle.fields.specs.Arithmetic.{found, partner}

found-by : (t : ℕ → Bool) (n b : ℕ) (v : Bool) → t n ≡ v → b < suc n → T (t b) → (b < n → (T (t (found t n)) × (found t n < n)))
    → T (t (cond v n (found t n))) × (cond v n (found t n) < suc n)
found-by t n b true e h p rest = (subst T (sym e) tt, omega arith)
found-by t n b false e h p rest =
    elim (eq-or-lt_of_le h) [ inl i ↦ absurd (subst T e (subst (λ k. T (t k)) (omega (arith, i)) p)) | inr i ↦ (let lt : b < n = omega (arith, i) in ((rest lt).0, omega (arith, (rest lt).1))) ]

-- where some number below n passes, so does the one found, which is below n
pub found-passes : (t : ℕ → Bool) (n b : ℕ) → b < n → T (t b) → T (t (found t n)) × (found t n < n)
found-passes t zero b h p = absurd (omega arith)
found-passes t (suc n) b h p = found-by t n b (t n) refl h p (λ i. found-passes t n b i p)

found-below_by : (t : ℕ → Bool) (n : ℕ) (v : Bool) → ((0 < n) → found t n < n) → cond v n (found t n) < suc n
found-below_by t n true rest = omega arith
found-below_by t zero false rest = omega arith
found-below_by t (suc n) false rest = omega (arith, rest (omega arith))

pub found_below : (t : ℕ → Bool) (n : ℕ) → 0 < n → found t n < n
found_below t zero h = absurd (omega arith)
found_below t (suc n) h = found-below_by t n (t n) (found_below t n)

pub partner-below : (q : ℕ) (times : ℕ → ℕ → ℕ) (a : ℕ) → 0 < q → partner q times a < q
unfolding partner
partner-below q times a h = found_below (λ b. nat_eq (times a b) 1) q h

-- a number with a partner below q has its product with the one found be 1
pub partner-times : (q : ℕ) (times : ℕ → ℕ → ℕ) (a b : ℕ) → b < q → times a b ≡ 1 → times a (partner q times a) ≡ 1
unfolding partner
partner-times q times a b h e =
    eqb→eq (times a (found (λ c. nat_eq (times a c) 1) q)) 1 (found-passes (λ c. nat_eq (times a c) 1) q b h (subst (λ k. T (k == 1)) (sym e) tt)).0
