-- What the searches in lists of numbers find.
use Rattle.std.proofs.Common.{◌≡◌, ℕ, zero, suc, ◌+◌, ◌≤◌, Bool, true, false, cond, not, ◌||◌, eqb, leb, ◌≢◌, List, [], ◌∷◌, length, get_or, None, refl, ap, ◌∙◌, arith, leb-false, eq-eqb, ne_eqb}
use Rattle.std.proofs.lemmas.Grind.{common_steps}
use Rattle.std.specs.List.{position_or_len}
use Rattle.fields.specs.Numbers.{Below, Zeros}
use Rattle.fields.specs.Checks.{stray}
use Rattle.linear.specs.Checks.{nonzero}

-- where the search for a number that is not below q ends at the list's end, all numbers are below q
below-from_end : (q : ℕ) (xs : List ℕ) → length xs ≤ position_or_len (λ x. leb q x) xs → Below q xs
below-from_end q [] h = tt
below-from_end q (x ∷ xs) h = go (leb q x) refl h (below-from_end q xs)
  where
    go : (b : Bool) → leb q x ≡ b → suc (length xs) ≤ cond (not b) (1 + position_or_len (λ y. leb q y) xs) 0 → (length xs ≤ position_or_len (λ y. leb q y) xs → Below q xs) → Below q (x ∷ xs)
    go true e h rest = absurd (omega arith)
    go false e h rest = (leb-false q x e, rest (omega arith))

-- where it finds none, they all are
pub below-from_stray : (q : ℕ) (xs : List ℕ) → None ≡ stray q xs → Below q xs
below-from_stray q xs e = let h : length xs ≤ position_or_len (λ x. leb q x) xs = grind (arith, common_steps) in below-from_end q xs h

pub nonzero-none : (xs : List ℕ) → Zeros xs → nonzero xs ≡ false
nonzero-none [] z = refl
nonzero-none (x ∷ xs) z = ap (λ b. not b || nonzero xs) (eq-eqb x 0 z.0) ∙ nonzero-none xs z.1

or_true : (b : Bool) → (b || true) ≡ true
or_true true = refl
or_true false = refl

pub nonzero-some : (xs : List ℕ) (k : ℕ) → get_or xs k 0 ≢ 0 → nonzero xs ≡ true
nonzero-some [] k n = absurd (n refl)
nonzero-some (x ∷ xs) zero n = ap (λ b. not b || nonzero xs) (ne_eqb x 0 n)
nonzero-some (x ∷ xs) (suc k) n = ap (λ b. not (eqb x 0) || b) (nonzero-some xs k n) ∙ or_true (not (eqb x 0))
