-- Lists of numbers: bounded, all zeros, distinct, and in how many places two of them differ.
use Rattle.std.specs.Prelude.{◌≡◌, ℕ, ◌+◌, ◌<◌, Bool, cond, ◌≢◌, List, [], ◌∷◌, ◌==◌}
use Rattle.std.specs.List.{AllByRecursion, list_any}

-- every number is below q
abbrev pub Below : ℕ → List ℕ → Type 0
Below q xs = AllByRecursion (λ x. x < q) xs

-- every number is 0
abbrev pub Zeros : List ℕ → Type 0
Zeros xs = AllByRecursion (λ x. x ≡ 0) xs

-- no number stands twice
abbrev pub Distinct : List ℕ → Type 0
Distinct [] = Unit {0}
Distinct (x ∷ xs) = AllByRecursion (λ y. y ≢ x) xs × Distinct xs

-- whether a number stands in the list
abbrev pub among : ℕ → List ℕ → Bool
among x ys = list_any (λ y. y == x) ys

-- in how many places two lists differ
abbrev pub differ : List ℕ → List ℕ → ℕ
differ [] ys = 0
differ (x ∷ xs) [] = 0
differ (x ∷ xs) (y ∷ ys) = cond (x == y) 0 1 + differ xs ys
