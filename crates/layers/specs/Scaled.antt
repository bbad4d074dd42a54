-- What scaling makes of a code's meaning.
use Rattle.std.specs.Prelude.{ℕ, ◌+◌, ◌<◌, ◌≤◌, cond, ◌&&◌, List, [], ◌∷◌, length, Ok, ◌==◌, nat_le, nat_lt}
use Rattle.std.specs.List.{AllByRecursion}
use Rattle.fields.specs.Arithmetic.{Arithmetic, total}
use Rattle.fields.specs.Checks.{Check, unless, and_then}
use Rattle.codes.specs.Meaning.{Meaning}
use Rattle.codes.specs.declared.fault.FitnessFault.{FitnessFault}
use Rattle.codes.specs.declared.fault.FitnessFault.TheVariants.{Length, FieldSize, Multiplier}

-- every number is below q and not 0
abbrev pub Units : ℕ → List ℕ → Type 0
Units q xs = AllByRecursion (λ x. (1 ≤ x) × (x < q)) xs

-- the same as a check, or the place of the first multiplier that is not so; the list's first place is i
abbrev pub multiplier_check : ℕ → ℕ → List ℕ → Check FitnessFault
multiplier_check q i [] = Ok tt
multiplier_check q i (x ∷ xs) = unless (nat_le 1 x && nat_lt x q) (Multiplier i) (multiplier_check q (i + 1) xs)

-- the products of two lists, place by place
abbrev pub products : Arithmetic → List ℕ → List ℕ → List ℕ
products F [] ys = []
products F (x ∷ xs) [] = []
products F (x ∷ xs) (y ∷ ys) = F.times x y ∷ products F xs ys

-- of multipliers, received numbers and marks: the numbers at unmarked places divided by their multipliers, and 0 at the others
abbrev pub quotients : Arithmetic → List ℕ → List ℕ → List ℕ → List ℕ
quotients F [] rs ms = []
quotients F (x ∷ xs) [] ms = []
quotients F (x ∷ xs) (r ∷ rs) [] = []
quotients F (x ∷ xs) (r ∷ rs) (m ∷ ms) = cond (m == 0) (F.times (F.inverse x) r) 0 ∷ quotients F xs rs ms

-- the code below scaled in a field: each number of a word is multiplied by its multiplier
abbrev pub scaled : Arithmetic → List ℕ → Meaning → Meaning
scaled F xs M = record {
  fitness =
      and_then M.fitness
      (unless (length xs == M.long) Length
      (unless (F.order == M.order) FieldSize (multiplier_check M.order 0 xs)));
  order = M.order;
  long = M.long;
  dimension = M.dimension;
  distance = M.distance;
  word = λ m. products (total F) xs (M.word m);
}
