-- Two messages of k numbers agree in fewer than k of the points.
use Rattle.std.proofs.Common.{◌≡◌, ℕ, suc, ◌+◌, ◌<◌, ◌≤◌, Bool, true, false, cond, eqb, ◌≢◌, List, [], ◌∷◌, length, filter, refl, arith, eqb-true}
use native.Mathlib.Decide.{dec_le}
use lib.ListN.{length-map}
use Rattle.std.specs.List.{AllByRecursion}
use Rattle.fields.specs.Arithmetic.{Arithmetic}
use Rattle.fields.proofs.Total.{TotalLaws}
use Rattle.fields.specs.Numbers.{Below, Distinct, differ}
use Rattle.linear.specs.Polynomials.{value, scaled, word}
use Rattle.linear.proofs.Roots
use Rattle.linear.proofs.Values

-- what a filter keeps of an AllByRecursion, of distinct numbers
pub kept-all : (P : ℕ → Type 0) (test : ℕ → Bool) (xs : List ℕ) → AllByRecursion P xs → AllByRecursion P (filter test xs)
kept-all P test [] h = tt
kept-all P test (x ∷ xs) h =
    elim (test x) as (λ b. AllByRecursion P (cond b (x ∷ filter test xs) (filter test xs))) [ true ↦ (h.0, kept-all P test xs h.1) | false ↦ kept-all P test xs h.1 ]

pub kept-distinct : (test : ℕ → Bool) (xs : List ℕ) → Distinct xs → Distinct (filter test xs)
kept-distinct test [] h = tt
kept-distinct test (x ∷ xs) h =
    elim (test x) as (λ b. Distinct (cond b (x ∷ filter test xs) (filter test xs))) [ true ↦ (kept-all (λ y. y ≢ x) test xs h.0, kept-distinct test xs h.1) | false ↦ kept-distinct test xs h.1 ]

-- each that is kept passes
pub kept-passes : (test : ℕ → Bool) (xs : List ℕ) → AllByRecursion (λ x. test x ≡ true) (filter test xs)
kept-passes test [] = tt
kept-passes test (x ∷ xs) = go (test x) refl (kept-passes test xs)
  where
    go : (b : Bool) → test x ≡ b → AllByRecursion (λ x. test x ≡ true) (filter test xs) → AllByRecursion (λ x. test x ≡ true) (cond b (x ∷ filter test xs) (filter test xs))
    go true e rest = (e, rest)
    go false e rest = rest

module _ (F : Arithmetic) (L : TotalLaws F) where
  -- whether two messages agree at a point
  abbrev agree : List ℕ → List ℕ → ℕ → Bool
  agree p s x = eqb (value F p x) (value F s x)

  agreeing : (p s points : List ℕ) → differ (word F points p) (word F points s) + length (filter (agree p s) points) ≡ length points
  agreeing p s [] = refl
  agreeing p s (x ∷ xs) = go (agree p s x) (agreeing p s xs)
    where
      go : (b : Bool) → differ (word F xs p) (word F xs s) + length (filter (agree p s) xs) ≡ length xs → cond b 0 1 + differ (word F xs p) (word F xs s) + length (cond b (x ∷ filter (agree p s) xs) (filter (agree p s) xs)) ≡ suc (length xs)
      go true rest = omega arith
      go false rest = omega arith

  roots_of : (p s xs : List ℕ) → AllByRecursion (λ x. agree p s x ≡ true) xs → AllByRecursion (λ x. value F (Values.minus F L p s) x ≡ 0) xs
  roots_of p s [] h = tt
  roots_of p s (x ∷ xs) h = (Values.value-minus F L p s x (eqb-true _ _ h.0), roots_of p s xs h.1)

  -- messages that agree in as many points as they have numbers are one
  pub same_message : (p s points : List ℕ) → length p ≡ length s → Below F.order p → Below F.order s → Distinct points → Below F.order points → length p ≤ length (filter (agree p s) points) → p ≡ s
  same_message p s points e hp hs ds hx le =
      let kept = filter (agree p s) points in
      Values.same_from_minus F L p s e hp hs
      (Roots.roots_bound F L kept (Values.minus F L p s) (kept-distinct (agree p s) points ds) (kept-all (λ x. x < F.order) (agree p s) points hx)
      (Values.added-below F L p _ hp (Values.scaled-below F L (F.opposite 1) s)) (roots_of p s kept (kept-passes (agree p s) points))
      (omega (arith, Values.length-added F L p (scaled F (F.opposite 1) s), length-map s (F.times (F.opposite 1)))))

  -- the words of two messages of k numbers at n points differ in at least n - k + 1 places
  pub words_apart : (p s points : List ℕ) (k : ℕ) → length p ≡ k → length s ≡ k → Below F.order p → Below F.order s → Distinct points → Below F.order points → p ≢ s → length points + 1 ≤ differ (word F points p) (word F points s) + k
  words_apart p s points k ep es hp hs ds hx apart = go (dec_le k (length (filter (agree p s) points)))
    where
      go : Dec (k ≤ length (filter (agree p s) points)) → length points + 1 ≤ differ (word F points p) (word F points s) + k
      go (yes le) = absurd (apart (same_message p s points (omega arith) hp hs ds hx (omega arith)))
      go (no more) = omega (arith, agreeing p s points)
