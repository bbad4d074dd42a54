-- Homogeneous linear equations: rows of w coefficients that lie one after another in a list.
use Rattle.std.specs.Prelude.{◌≡◌, ℕ, ◌+◌, ◌*◌, ◌/◌, ◌<◌, Bool, true, false, List, [], ◌∷◌, length, take, drop, ◌≢◌, Some, None, Ok, Err, Option, nat_le, nat_lt, slice_index}
use Rattle.fields.specs.Arithmetic.{Arithmetic}
use Rattle.fields.specs.Numbers.{Below, Zeros}
use Rattle.fields.specs.Checks.{Check, unless, unless_found, stray}
use Rattle.linear.specs.Polynomials.{added, scaled}
use Rattle.linear.specs.declared.fault.SolveFault.{SolveFault}
use Rattle.linear.specs.declared.fault.SolveFault.TheVariants.{Unknowns, Scratch, Number}

-- row i
abbrev pub row : ℕ → ℕ → List ℕ → List ℕ
row w i s = take w (drop (i * w) s)

-- how many rows of w numbers stand in s
abbrev pub height : ℕ → List ℕ → ℕ
height w s = length s / w

-- the sum of the products at each place
abbrev pub dot : Arithmetic → List ℕ → List ℕ → ℕ
dot F [] v = 0
dot F (a ∷ r) [] = 0
dot F (a ∷ r) (y ∷ v) = F.plus (F.times a y) (dot F r v)

-- the row t less b times the row p
abbrev pub reduced : Arithmetic → List ℕ → ℕ → List ℕ → List ℕ
reduced F t b p = added F t (scaled F (F.opposite b) p)

-- the numbers u from column c on solve the first n rows, where the columns before c are not looked at
abbrev pub Solves : Arithmetic → ℕ → ℕ → ℕ → List ℕ → List ℕ → Type 0
Solves F w c n s u = (i : ℕ) → i < n → dot F (drop c (row w i s)) u ≡ 0

-- whatever solves the rows s' from column c on solves the rows s
abbrev pub Keeps : Arithmetic → ℕ → ℕ → ℕ → List ℕ → List ℕ → Type 0
Keeps F w c n s s' = (u : List ℕ) → Solves F w c n s' u → Solves F w c n s u

-- each of the rows s' is that of s less the multiple of the pivot row by the number in column c
abbrev pub Cleared : Arithmetic → ℕ → ℕ → ℕ → List ℕ → List ℕ → List ℕ → Type 0
Cleared F w c n s s' pivot = (k : ℕ) → k < n → row w k s' ≡ reduced F (row w k s) (slice_index (row w k s) c) pivot

-- the first of the n rows whose number in column c is not 0, if any is
abbrev pub Pivot : ℕ → ℕ → ℕ → List ℕ → Option ℕ → Type 0
Pivot w c n s None = (k : ℕ) → k < n → slice_index s (k * w + c) ≡ 0
Pivot w c n s (Some p) = (p < n) × ((k : ℕ) → k < p → slice_index s (k * w + c) ≡ 0) × (slice_index s (p * w + c) ≢ 0)

-- the first n rows have numbers of the field
abbrev pub Grid : Arithmetic → ℕ → ℕ → List ℕ → Type 0
Grid F w n s = (i : ℕ) → i < n → Below F.order (row w i s)

-- s is whole rows of w numbers of the field
pub record Rows (F : Arithmetic) (w : ℕ) (s : List ℕ) : Type 0 where
  pub whole : height w s * w ≡ length s
  pub grid : Grid F w (height w s) s

-- whether a row has a number other than 0 in column c: the first row then has one, and what solves the rows s' solves the rows s
abbrev pub PivotPlaced : Arithmetic → ℕ → ℕ → (s s' : List ℕ) → Bool → Type 0
PivotPlaced F w c s s' false = (i : ℕ) → i < height w s → slice_index (row w i s) c ≡ 0
PivotPlaced F w c s s' true = (0 < height w s) × (slice_index s' c ≢ 0) × Grid F w (height w s) s' × Keeps F w c (height w s) s s'

-- v solves the first n rows of w coefficients in s, and is not all zeros
pub record Solution (F : Arithmetic) (w n : ℕ) (s v : List ℕ) : Type 0 where
  -- one number for each unknown
  pub long : length v ≡ w
  pub below : Below F.order v
  pub nonzero : Zeros v → ⊥
  -- each equation holds
  pub solves : (i : ℕ) → i < n → dot F (row w i s) v ≡ 0

-- n equations in w unknowns in the scratch s: there are more unknowns than equations, room for the rows and one more, and coefficients below q
abbrev pub solve_check : ℕ → List ℕ → ℕ → ℕ → Check SolveFault
solve_check q s n w =
    unless (nat_lt n w) Unknowns
    (unless (nat_le ((n + 1) * w) (length s)) Scratch
    (unless_found (stray q (take (n * w) s)) Number (Ok tt)))

-- what solving n equations leaves in the scratch s and in v: a solution, or what they held where it is refused
abbrev pub Solved : Arithmetic → ℕ → (s s' v v' : List ℕ) → Check SolveFault → Type 0
Solved F n s s' v v' (Ok u) = Solution F (length v) n s v'
Solved F n s s' v v' (Err fault) = (s' ≡ s) × (v' ≡ v)
