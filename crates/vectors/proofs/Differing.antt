-- The places in which two lists differ.
use Rattle.std.proofs.Common.{◌≡◌, ℕ, ◌+◌, true, false, cond, not, eqb, ◌==◌, List, [], ◌∷◌, length, refl, sym, ap, ◌∙◌, ap₂, arith}
use Rattle.std.specs.List.{count_by, zip}
use Rattle.std.proofs.lemmas.List.Sums.{sum_by-cons}
use Rattle.std.proofs.lemmas.Bool.Decides.{nat_tests}
use Rattle.fields.specs.Numbers.{differ}

counts : (x y n : ℕ) → cond {A = ℕ} (x == y) 0 1 + n ≡ cond {A = ℕ} (not (x == y)) 1 0 + n
counts x y n = elim (x == y) as (λ b. cond {A = ℕ} b 0 1 + n ≡ cond {A = ℕ} (not b) 1 0 + n) [ true ↦ refl | false ↦ refl ]

-- as a count of the pairs whose numbers differ
pub differ_as_count : (xs ys : List ℕ) → differ xs ys ≡ count_by (λ (p : ℕ × ℕ). not (p.0 == p.1)) (zip xs ys)
differ_as_count [] ys = refl
differ_as_count (x ∷ xs) [] = refl
differ_as_count (x ∷ xs) (y ∷ ys) = ap (λ n. cond (x == y) 0 1 + n) (differ_as_count xs ys) ∙ counts x y _ ∙ sym (sum_by-cons (λ (p : ℕ × ℕ). cond {A = ℕ} (not (p.0 == p.1)) 1 0) (x, y) (zip xs ys))

alike : (x y : ℕ) → cond {A = ℕ} (eqb x y) 0 1 ≡ 0 → x ≡ y
alike x y e = grind (arith, nat_tests)

-- lists of one length that differ nowhere are equal
pub differ-none : (xs ys : List ℕ) → length xs ≡ length ys → differ xs ys ≡ 0 → xs ≡ ys
differ-none [] [] l d = refl
differ-none [] (y ∷ ys) l d = absurd (omega arith)
differ-none (x ∷ xs) [] l d = absurd (omega arith)
differ-none (x ∷ xs) (y ∷ ys) l d =
    let here : cond {A = ℕ} (eqb x y) 0 1 ≡ 0 = omega arith in
    ap₂ ◌∷◌ (alike x y here) (differ-none xs ys (omega arith) (omega arith))
