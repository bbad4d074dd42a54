-- Which codes keep the code meaning, and with which distance.
use Rattle.std.specs.Prelude.{◌≡◌, ℕ, ◌<◌, ◌↔◌, List, [], ◌∷◌, length, Ok}
use Rattle.fields.specs.Arithmetic.{Arithmetic}
use Rattle.fields.specs.Laws.{Laws}
use Rattle.codes.specs.Meaning.{Meaning, Sound}
use Rattle.evaluation.specs.Evaluation.{evaluation, Evaluates}
use Rattle.layers.specs.Made.{Trims, Scales}
use Rattle.layers.specs.Scaled.{scaled, Units}
use Rattle.layers.specs.Trimmed.{trimmed}
use Rattle.repetition.specs.Made.{Repeats}
use Rattle.repetition.specs.Repeats.{repetition}

-- a layer: the last z message numbers are 0 and left out, or number j of each word is multiplied by multiplier j in a field
pub data Layer : Type 0 where
  trim : ℕ → Layer
  scale : Arithmetic → List ℕ → Layer

-- what a layer makes of the code below it
abbrev pub over : Layer → Meaning → Meaning
over (trim z) m = trimmed z m
over (scale F xs) m = scaled F xs m

-- a scaled layer's field keeps the laws
abbrev pub Lawful : Layer → Type 0
Lawful (trim z) = Unit {0}
Lawful (scale F xs) = Laws F

-- a layer suits the code below: fewer numbers are left out than a message has; or there is one multiplier for each place, below the order and not 0, of a field of that order
abbrev pub Suits : Layer → Meaning → Type 0
Suits (trim z) m = z < m.dimension
Suits (scale F xs) m = (length xs ≡ m.long) × (F.order ≡ m.order) × Units m.order xs

-- a pile: any number of layers on a code, also none, the lowest first
abbrev pub pile : Meaning → List Layer → Meaning
pile m [] = m
pile m (layer ∷ layers) = pile (over layer m) layers

abbrev pub AllLawful : List Layer → Type 0
AllLawful [] = Unit {0}
AllLawful (layer ∷ layers) = Lawful layer × AllLawful layers

-- each layer suits what lies below it
abbrev pub AllSuit : Meaning → List Layer → Type 0
AllSuit m [] = Unit {0}
AllSuit m (layer ∷ layers) = Suits layer m × AllSuit (over layer m) layers

-- a code keeps the code meaning where it is fit: its parameters are in range, each message has a word of n numbers below q, and the words of two different messages differ in at least d places
abbrev pub Keeps : Meaning → Type 0
Keeps m = m.fitness ≡ Ok tt → Sound m

-- what a pile is
pub record Piled (m top : Meaning) (layers : List Layer) : Type 0 where
  -- it is fit exactly where the code is and each layer suits what lies below it
  pub fit : (top.fitness ≡ Ok tt) ↔ ((m.fitness ≡ Ok tt) × AllSuit m layers)
  -- it keeps the meaning with the distance of the code
  pub keeps : Keeps top
  pub distance : top.distance ≡ m.distance

-- The codes keep the code meaning.
pub record CodesKeep : Type 0 where
  -- Over every field that keeps the laws: the evaluation code is fit exactly where it is made from 1 to 128 distinct points below q and 1 to n message numbers, and then keeps the meaning with distance n − k + 1.
  pub evaluations : (F : Arithmetic) → Laws F → (n k : ℕ) (points : List ℕ) → Evaluates F n k points (evaluation F n k points)
  -- The repetition code is fit exactly where n is from 1 to 128 and q from 2 to 65,536, and then keeps the meaning with distance n.
  pub repetitions : (q n : ℕ) → Repeats q n (repetition q n)
  -- One layer over a code that keeps the meaning.
  pub trims : (z : ℕ) (m : Meaning) → Keeps m → Trims z m (trimmed z m)
  pub scales : (F : Arithmetic) → Laws F → (xs : List ℕ) (m : Meaning) → Keeps m → Scales F xs m (scaled F xs m)
  -- Any pile of layers on a code that keeps the meaning.
  pub piles : (m : Meaning) (layers : List Layer) → Keeps m → AllLawful layers → Piled m (pile m layers) layers
