-- What holds of polynomials over every field.
use Rattle.std.specs.Prelude.{◌≡◌, ℕ, ◌+◌, ◌≤◌, ◌≢◌, List, length, slice_index}
use Rattle.std.specs.List.{AllByRecursion}
use Rattle.fields.specs.Arithmetic.{Arithmetic, total}
use Rattle.fields.specs.Laws.{Laws}
use Rattle.fields.specs.Numbers.{Below, Zeros, Distinct, differ}
use Rattle.linear.specs.Polynomials.{value, word}

-- the value at the point 0 is the constant
abbrev pub ConstantAtZero : Type 0
ConstantAtZero = (F : Arithmetic) → Laws F → (p : List ℕ) → Below F.order p → value (total F) p 0 ≡ slice_index p 0

-- a polynomial that vanishes at as many distinct points as it has coefficients is zero
abbrev pub RootBound : Type 0
RootBound =
    (F : Arithmetic) → Laws F → (points p : List ℕ) → Distinct points → Below F.order points → Below F.order p → length p ≤ length points
    → AllByRecursion (λ x. value (total F) p x ≡ 0) points → Zeros p

-- the words of two different messages of k numbers at n distinct points differ in at least n - k + 1 places
abbrev pub WordsApart : Type 0
WordsApart =
    (F : Arithmetic) → Laws F → (points p s : List ℕ) (k : ℕ) → Distinct points → Below F.order points → length p ≡ k → length s ≡ k → Below F.order p → Below F.order s
    → p ≢ s → length points + 1 ≤ differ (word (total F) points p) (word (total F) points s) + k
