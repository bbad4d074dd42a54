-- What the division gives is what is near the received numbers.
use Rattle.std.proofs.Common.{◌≡◌, ℕ, suc, ◌+◌, ◌-◌, ◌*◌, ◌<◌, ◌≤◌, List, ◌++◌, length, get_or, Ok, Err, sym, ◌∙◌, subst, ap₂, arith}
use Rattle.std.proofs.ByRecursion.{All-append}
use Rattle.fields.specs.Arithmetic.{Arithmetic}
use Rattle.fields.specs.Numbers.{Below, Zeros, Distinct}
use Rattle.fields.proofs.Total.{TotalLaws}
use Rattle.linear.specs.Equations.{dot, Solution}
use Rattle.linear.proofs.Grid.{row-front}
use Rattle.fields.specs.Checks.{Check}
use Rattle.codes.specs.declared.fault.CodeFault.{CodeFault}
use Rattle.evaluation.specs.Decoding.{equation, Equations, Quotient, Located}
use Rattle.evaluation.proofs.Locator.{Meets, meets_from, dot-equation, key, sound, all_parts, both_zero}

-- what solves the equations, in two parts, meets them
pub meets_solved : (F : Arithmetic) → TotalLaws F → (m w a : ℕ) (xs ys written tail p s v : List ℕ) → m ≡ length xs → m * w ≡ length written → Equations F w a xs ys written → Solution F w m (written ++ tail) v
    → v ≡ p ++ s → length p ≡ a → length s ≡ w - a → Meets F p s xs ys
meets_solved F L m w a xs ys written tail p s v count long rows solved split lp ls =
    meets_from F L p s xs ys (λ i l.
    sym (dot-equation F L (get_or xs i 0) (get_or ys i 0) p s)
    ∙ ap₂ (dot F) (ap₂ (λ b c. equation F b c (get_or xs i 0) (get_or ys i 0)) lp ls ∙ sym (rows i l) ∙ sym (row-front w i m written tail long (omega (arith, count, l)))) (sym split)
    ∙ solved.solves i (omega (arith, count, l)))

-- what holds of the two parts of a solution
pub record Parts (F : Arithmetic) (p s xs ys : List ℕ) : Type 0 where
  pub first : Below F.order p
  pub second : Below F.order s
  pub nonzero : Zeros s → ⊥
  pub meets : Meets F p s xs ys

pub parts_of : (F : Arithmetic) → TotalLaws F → (m w a : ℕ) (xs ys written tail p s v : List ℕ) → m ≡ length xs → m * w ≡ length written → Equations F w a xs ys written → Solution F w m (written ++ tail) v
    → v ≡ p ++ s → length p ≡ a → length s ≡ w - a → a ≤ m → Distinct xs → Below F.order xs → length xs ≡ length ys → Parts F p s xs ys
parts_of F L m w a xs ys written tail p s v count long rows solved split lp ls few distinct below same =
    let both = all_parts (λ x. x < F.order) p s (subst (Below F.order) split solved.below) in
    let meets = meets_solved F L m w a xs ys written tail p s v count long rows solved split lp ls in
    record {
      first = both.0;
      second = both.1;
      nonzero = λ z. solved.nonzero (subst Zeros (sym split) (All-append (λ x. x ≡ 0) p s (both_zero F L p s xs ys both.0 distinct below same meets (omega (arith, lp, count, few)) z) z));
      meets = meets;
    }

-- Q0 has p's and Q1 t + 1 numbers, and t is half of what the places have more than the message, rounded down
pub record Sizes (p s xs : List ℕ) (k t : ℕ) : Type 0 where
  pub locator : length s ≡ suc t
  pub whole : length p + t ≡ length xs
  pub half : 2 * t + k ≤ length xs
  pub floor : length xs < 2 * suc t + k

pub located : (F : Arithmetic) → TotalLaws F → (p s xs ys old new : List ℕ) (t : ℕ) (r : Check CodeFault) → Sizes p s xs (length old) t → Below F.order p → Below F.order s → (Zeros s → ⊥)
    → Distinct xs → Below F.order xs → Below F.order ys → length xs ≡ length ys → Meets F p s xs ys → length new ≡ length old
    → Quotient F p s old new r → Located F xs ys old new r
located F L p s xs ys old new t (Ok u) z hp hs nz ds hx hy e m en h =
    let few = sound F L p s new xs ys t z.locator hs nz ds hx hy e m h.1 in
    (h.0, omega (arith, few, z.half, en))
located F L p s xs ys old new t (Err f) z hp hs nz ds hx hy e m en h = (
  h.0,
  h.1,
  λ c lc hc near. h.2 c lc hc
      (key F L p s c xs ys t z.locator hp ds hx e m (omega (arith, z.whole)) (omega (arith, z.whole, z.half, lc)) (omega (arith, near, z.floor, lc))),
)
