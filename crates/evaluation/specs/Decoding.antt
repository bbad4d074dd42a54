-- The decoder's equations: Q0(x) + y Q1(x) = 0 at each unmarked place, with its point x and its received number y.
use Rattle.std.specs.Prelude.{◌≡◌, ℕ, zero, suc, ◌+◌, ◌-◌, ◌*◌, ◌<◌, ◌≤◌, List, [], ◌∷◌, ◌++◌, length, Ok, Err, slice_index}
use Rattle.fields.specs.Arithmetic.{Arithmetic}
use Rattle.fields.specs.Numbers.{Below, Zeros, Distinct, differ}
use Rattle.linear.specs.Equations.{row}
use Rattle.linear.specs.Polynomials.{added, product, word}
use Rattle.fields.specs.Checks.{Check}
use Rattle.codes.specs.declared.fault.CodeFault.{CodeFault}
use Rattle.codes.specs.declared.fault.CodeFault.TheVariants.{Reach}

-- what stands at the places that are not marked
abbrev pub present : (marks : List ℕ) → List ℕ → List ℕ
present [] xs = []
present (m ∷ ms) [] = []
present (zero ∷ ms) (x ∷ xs) = x ∷ present ms xs
present (suc m ∷ ms) (x ∷ xs) = present ms xs

-- c, c x, c x² and so on: n numbers
abbrev pub powers : Arithmetic → (c x n : ℕ) → List ℕ
powers F c x zero = []
powers F c x (suc n) = c ∷ powers F (F.times c x) x n

-- c x^i
abbrev pub power : Arithmetic → (c x i : ℕ) → ℕ
power F c x zero = c
power F c x (suc i) = power F (F.times c x) x i

-- the coefficients of the unknowns in Q0(x) + y Q1(x): a for Q0 and b for Q1
abbrev pub equation : Arithmetic → (a b x y : ℕ) → List ℕ
equation F a b x y = powers F 1 x a ++ powers F y x b

-- row after row, the equations of the points xs and the received numbers ys, in w unknowns of which a are those of Q0
abbrev pub Equations : Arithmetic → (w a : ℕ) (xs ys rows : List ℕ) → Type 0
Equations F w a xs ys rows = (i : ℕ) → i < length xs → row w i rows ≡ equation F a (w - a) (slice_index xs i) (slice_index ys i)

-- what is decoded: a received number and a mark for each of distinct points below q, and unmarked numbers below q
pub record Given (q : ℕ) (points received marks : List ℕ) : Type 0 where
  pub few : length points ≤ 128
  pub points_long : length points ≡ length marks
  pub received_long : length received ≡ length marks
  pub distinct : Distinct points
  pub below : Below q points
  pub numbers : Below q (present marks received)

-- Q0 + c Q1 is zero as a polynomial, so that c is −Q0 / Q1
abbrev pub Divides : Arithmetic → (Q0 Q1 c : List ℕ) → Type 0
Divides F Q0 Q1 c = Zeros (added F Q0 (product F c Q1))

-- the buffer gets −Q0 / Q1, or no polynomial of so many numbers is that, and the buffer stays
abbrev pub Quotient : Arithmetic → (Q0 Q1 old new : List ℕ) → Check CodeFault → Type 0
Quotient F Q0 Q1 old new (Ok u) = Below F.order new × Divides F Q0 Q1 new
Quotient F Q0 Q1 old new (Err f) = (f ≡ Reach) × (new ≡ old) × ((c : List ℕ) → length c ≡ length old → Below F.order c → Divides F Q0 Q1 c → ⊥)

-- a message near the received numbers ys at the points xs: twice the places where they differ is at most what the places have more than the message
abbrev pub Near : Arithmetic → (xs ys c : List ℕ) → Type 0
Near F xs ys c = 2 * differ (word F xs c) ys + length c ≤ length xs

-- the buffer gets a message near the received numbers, or no message is, and the buffer stays
abbrev pub Located : Arithmetic → (xs ys old new : List ℕ) → Check CodeFault → Type 0
Located F xs ys old new (Ok u) = Below F.order new × Near F xs ys new
Located F xs ys old new (Err f) = (f ≡ Reach) × (new ≡ old) × ((c : List ℕ) → length c ≡ length old → Below F.order c → Near F xs ys c → ⊥)
