-- Lemmas of the repetition code and its decoder.
use Rattle.std.proofs.Common.{◌≡◌, ℕ, suc, ◌+◌, ◌<◌, ◌≤◌, cond, eqb, List, [], ◌∷◌, length, get_or, set, replicate, Ok, sym, refl, ap, ◌∙◌, subst, arith}
use Rattle.std.proofs.lemmas.Bool.Decides.{nat_tests}
use Rattle.codes.specs.Checks.{unmarked_check}
use Rattle.codes.specs.Meaning.{Solved}
use Rattle.codes.specs.Words.{wrong, missing}
use Rattle.repetition.specs.Made.{Repeats}
use Rattle.repetition.specs.Sound.{repetition-sound}
use Rattle.repetition.specs.Repeats.{Near, Nearby, repetition}

-- a number that was received at no unmarked place is wrong at all of them
absent : (rs ms : List ℕ) (x : ℕ) → length rs ≡ length ms → ((j : ℕ) → j < length rs → get_or ms j 0 ≡ 0 → get_or rs j 0 ≡ x → ⊥) → wrong rs ms (replicate (length rs) x) + missing ms ≡ length rs
absent [] [] x e h = omega arith
absent [] (m ∷ ms) x e h = absurd (omega arith)
absent (r ∷ rs) [] x e h = absurd (omega arith)
absent (r ∷ rs) (m ∷ ms) x e h =
    let i = absent rs ms x (omega arith) (λ j l. h (suc j) (omega arith)) in
    let here : m ≡ 0 → r ≡ x → ⊥ = h 0 (omega arith) in
    let o : cond {A = ℕ} (eqb m 0) (cond (eqb r x) 0 1) 0 + cond (eqb m 0) 0 1 ≡ 1 = one m r x here in
    omega arith
  where
    one : (m r x : ℕ) → (m ≡ 0 → r ≡ x → ⊥) → cond {A = ℕ} (eqb m 0) (cond (eqb r x) 0 1) 0 + cond (eqb m 0) 0 1 ≡ 1
    one m r x here = grind (arith, nat_tests)

-- no unmarked number of the list xs, with its marks ns, is near
abbrev pub NoneNear : (rs ms xs ns : List ℕ) → Type 0
NoneNear rs ms xs ns = (j : ℕ) → j < length xs → get_or ns j 0 ≡ 0 → Near rs ms (get_or xs j 0) → ⊥

-- what is known of the numbers xs that are left in a search, with their marks ns
pub record Left (q : ℕ) (rs ms xs ns : List ℕ) : Type 0 where
  pub same : length xs ≡ length ns
  pub place : ℕ
  pub checked : unmarked_check q place xs ns ≡ Ok tt
  -- where none of them is near, none of all is
  pub none : NoneNear rs ms xs ns → NoneNear rs ms rs ms

-- where no received number is near, none is
pub none_near : (rs ms : List ℕ) → length rs ≡ length ms → NoneNear rs ms rs ms → (x : ℕ) → Near rs ms x → ⊥
none_near rs ms e h x near =
    let a = absent rs ms x e (λ j l m v. h j l m (subst (Near rs ms) (sym v) near)) in omega arith

written_one : (m : List ℕ) (x : ℕ) → length m ≡ 1 → set m 0 x ≡ x ∷ []
written_one [] x e = absurd (omega arith)
written_one (y ∷ []) x e = refl
written_one (y ∷ z ∷ zs) x e = absurd (omega arith)

-- a near number, written into the buffer, is the message within reach
pub solved-one : (q n : ℕ) (rs ms old : List ℕ) (found : ℕ × ℕ) → length rs ≡ n → length old ≡ 1 → Nearby q rs ms found → Solved (repetition q n) rs ms old (set old 0 found.0) (Ok found.1)
solved-one q n rs ms old found l o h =
    let x = found.0 in
    let near = h.near in
    let w : wrong rs ms (replicate (length rs) x) ≡ wrong rs ms (replicate n x) = ap (λ (t : ℕ). wrong rs ms (replicate t x)) l in
    rw (written_one old x o) (record { reached = record { message = record { long = refl; below = (h.below, tt) }; near = omega arith }; counted = h.counted ∙ w })

pub missing-few : (ms : List ℕ) → missing ms ≤ length ms
missing-few [] = omega arith
missing-few (m ∷ ms) = let i = missing-few ms in let o : cond {A = ℕ} (eqb m 0) 0 1 ≤ 1 = grind (arith, nat_tests) in omega arith

-- the code's meaning in plain words
pub repeats : (q n : ℕ) → Repeats q n (repetition q n)
repeats q n = record {
  fit = (λ e. (grind (arith, nat_tests), grind (arith, nat_tests), grind (arith, nat_tests), grind (arith, nat_tests)), λ h. fits h.0 h.1 h.2 h.3);
  order = refl;
  long = refl;
  dimension = refl;
  distance = refl;
  word = λ m. refl;
  sound = repetition-sound q n;
}
  where
    fits : 1 ≤ n → n ≤ 128 → 2 ≤ q → q ≤ 65536 → (repetition q n).fitness ≡ Ok tt
    fits a b c d = grind (arith, nat_tests)
