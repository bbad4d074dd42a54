-- The points and multipliers of a symbol's code, over any field.
use Rattle.std.specs.Prelude.{◌≡◌, ℕ, zero, suc, ◌+◌, ◌-◌, ◌<◌, ◌≢◌, List, ◌++◌, length, take, drop, Some, None, Ok, Err, Option, slice_index}
use Rattle.std.specs.List.{fold}
use Rattle.fields.specs.Arithmetic.{Arithmetic, total, inverted}
use Rattle.fields.specs.Checks.{Check}
use Rattle.symbols.specs.declared.fault.SymbolFault.{SymbolFault}
use Rattle.symbols.specs.declared.fault.SymbolFault.TheVariants.{Length, Multiplier}

-- x^i
abbrev pub power : Arithmetic → (x i : ℕ) → ℕ
power F x zero = 1
power F x (suc i) = F.times (power F x i) x

-- of n points, point j is g^(n - 1 - j)
abbrev pub Points : Arithmetic → (g : ℕ) → List ℕ → Type 0
Points F g xs = (j : ℕ) → j < length xs → slice_index xs j ≡ power F g (length xs - 1 - j)

-- c times the differences x − y, for each y of the list
abbrev pub differences : Arithmetic → (c x : ℕ) → List ℕ → ℕ
differences F c x ys = fold (λ product y. F.times product (F.plus x (F.opposite y))) c ys

-- x^b times the differences x − y, where x is point j and y is each of the points at the other places
abbrev pub divisor : Arithmetic → (b : ℕ) (xs : List ℕ) (j : ℕ) → ℕ
divisor F b xs j = differences F (power F (slice_index xs j) b) (slice_index xs j) (take j xs ++ drop (j + 1) xs)

-- the multiplier of point j is the inverse of that, absent where that is 0
abbrev pub multiplier : Arithmetic → (b : ℕ) (xs : List ℕ) (j : ℕ) → Option ℕ
multiplier F b xs j = inverted F (divisor (total F) b xs j)

-- the first place whose point has no multiplier, or nothing where each has one
abbrev pub Lacking : Arithmetic → (b : ℕ) (xs : List ℕ) → Option ℕ → Type 0
Lacking F b xs None = (j : ℕ) → j < length xs → multiplier F b xs j ≢ None
Lacking F b xs (Some j) = (j < length xs) × (multiplier F b xs j ≡ None) × ((i : ℕ) → i < j → multiplier F b xs i ≢ None)

-- each point's multiplier stands at its place
abbrev pub Filled : Arithmetic → (b : ℕ) (xs ms : List ℕ) → Type 0
Filled F b xs ms = (j : ℕ) → j < length xs → multiplier F b xs j ≡ Some (slice_index ms j)

-- what writing the multipliers leaves in a buffer: all of them, or what it held where it has not the points' length or a point has no multiplier
abbrev pub Multiplied : Arithmetic → (b : ℕ) (xs old new : List ℕ) → Check SymbolFault → Type 0
Multiplied F b xs old new (Ok u) = (length xs ≡ length old) × Filled F b xs new
Multiplied F b xs old new (Err Length) = (length xs ≢ length old) × (new ≡ old)
Multiplied F b xs old new (Err (Multiplier j)) = (length xs ≡ length old) × Lacking F b xs (Some j) × (new ≡ old)
