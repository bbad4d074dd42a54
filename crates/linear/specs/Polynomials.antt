-- Polynomials as lists of coefficients, the constant first.
use Rattle.std.specs.Prelude.{◌≡◌, ℕ, List, [], ◌∷◌, map, slice_index}
use Rattle.fields.specs.Arithmetic.{Arithmetic}

-- the value at x
abbrev pub value : Arithmetic → List ℕ → ℕ → ℕ
value F [] x = 0
value F (a ∷ p) x = F.plus a (F.times x (value F p x))

-- the sum of two polynomials
abbrev pub added : Arithmetic → List ℕ → List ℕ → List ℕ
added F [] s = s
added F (a ∷ p) [] = a ∷ p
added F (a ∷ p) (b ∷ s) = F.plus a b ∷ added F p s

-- c times a polynomial
abbrev pub scaled : Arithmetic → ℕ → List ℕ → List ℕ
scaled F c p = map (F.times c) p

-- the product of two polynomials
abbrev pub product : Arithmetic → List ℕ → List ℕ → List ℕ
product F [] s = []
product F (a ∷ p) s = added F (scaled F a s) (0 ∷ product F p s)

-- two lists of coefficients of one polynomial: they are equal but for zeros at the end
abbrev pub Same : List ℕ → List ℕ → Type 0
Same p s = (k : ℕ) → slice_index p k ≡ slice_index s k

-- the values at a list of points
abbrev pub word : Arithmetic → List ℕ → List ℕ → List ℕ
word F points p = map (value F p) points
