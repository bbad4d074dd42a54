-- Q0 and Q1: a message near the received numbers is −Q0 / Q1, and what is −Q0 / Q1 is near them.
use Rattle.std.proofs.Common.{◌≡◌, ℕ, zero, suc, ◌+◌, ◌<◌, ◌≤◌, Bool, true, false, cond, eqb, ◌≢◌, List, [], ◌∷◌, ◌++◌, length, get_or, sym, refl, ap, ◌∙◌, ap₂, arith, eqb-true}
use native.Mathlib.Decide.{dec_le}
use borrow.Author.Tests.{eqb-false}
use Rattle.std.proofs.ByRecursion.{All-append}
use Rattle.std.specs.List.{AllByRecursion}
use Rattle.fields.specs.Arithmetic.{Arithmetic}
use Rattle.fields.specs.Numbers.{Below, Zeros, Distinct, differ}
use Rattle.fields.proofs.Algebra
use Rattle.fields.proofs.Total.{TotalLaws}
use Rattle.linear.specs.Equations.{dot}
use Rattle.linear.specs.Polynomials.{value, added, product, word}
use Rattle.linear.proofs.Kernel.{dot-below}
use Rattle.linear.proofs.Roots
use Rattle.linear.proofs.Values
use Rattle.evaluation.specs.Decoding.{powers, equation, Divides}

-- Q0(x) + y Q1(x) = 0 at each point x with its number y
abbrev pub Meets : Arithmetic → (Q0 Q1 xs ys : List ℕ) → Type 0
Meets F p s [] ys = Unit {0}
Meets F p s (x ∷ xs) [] = Unit {0}
Meets F p s (x ∷ xs) (y ∷ ys) = (F.plus (value F p x) (F.times y (value F s x)) ≡ 0) × Meets F p s xs ys

-- the points where a message's value is the number received, and those where it is not
abbrev pub hits : Arithmetic → List ℕ → List ℕ → List ℕ → List ℕ
hits F c [] ys = []
hits F c (x ∷ xs) [] = []
hits F c (x ∷ xs) (y ∷ ys) = cond (eqb (value F c x) y) (x ∷ hits F c xs ys) (hits F c xs ys)

abbrev pub misses : Arithmetic → List ℕ → List ℕ → List ℕ → List ℕ
misses F c [] ys = []
misses F c (x ∷ xs) [] = []
misses F c (x ∷ xs) (y ∷ ys) = cond (eqb (value F c x) y) (misses F c xs ys) (x ∷ misses F c xs ys)

module _ (F : Arithmetic) (L : TotalLaws F) where
  open F use {order as q, plus as ◌⊕◌, times as ◌⊗◌, opposite as neg, inverse as inv}

  infixl 65 ◌⊕◌
  infixl 70 ◌⊗◌
  pub hits-all : (P : ℕ → Type 0) (c xs ys : List ℕ) → AllByRecursion P xs → AllByRecursion P (hits F c xs ys)
  hits-all P c [] ys h = tt
  hits-all P c (x ∷ xs) [] h = tt
  hits-all P c (x ∷ xs) (y ∷ ys) h =
      elim (eqb (value F c x) y) as (λ b. AllByRecursion P (cond b (x ∷ hits F c xs ys) (hits F c xs ys))) [ true ↦ (h.0, hits-all P c xs ys h.1) | false ↦ hits-all P c xs ys h.1 ]

  pub hits-distinct : (c xs ys : List ℕ) → Distinct xs → Distinct (hits F c xs ys)
  hits-distinct c [] ys h = tt
  hits-distinct c (x ∷ xs) [] h = tt
  hits-distinct c (x ∷ xs) (y ∷ ys) h =
      elim (eqb (value F c x) y) as (λ b. Distinct (cond b (x ∷ hits F c xs ys) (hits F c xs ys)))
      [ true ↦ (hits-all (λ z. z ≢ x) c xs ys h.0, hits-distinct c xs ys h.1) | false ↦ hits-distinct c xs ys h.1 ]

  pub hits-count : (c xs ys : List ℕ) → length xs ≡ length ys → differ (word F xs c) ys + length (hits F c xs ys) ≡ length xs
  hits-count c [] [] e = refl
  hits-count c [] (y ∷ ys) e = absurd (omega arith)
  hits-count c (x ∷ xs) [] e = absurd (omega arith)
  hits-count c (x ∷ xs) (y ∷ ys) e = go (eqb (value F c x) y) (hits-count c xs ys (omega arith))
    where
      go : (b : Bool) → differ (word F xs c) ys + length (hits F c xs ys) ≡ length xs → cond b 0 1 + differ (word F xs c) ys + length (cond b (x ∷ hits F c xs ys) (hits F c xs ys)) ≡ suc (length xs)
      go true r = omega arith
      go false r = omega arith

  value-key : (p s c : List ℕ) (x y : ℕ) → value F c x ≡ y → value F p x ⊕ y ⊗ value F s x ≡ 0 → value F (added F p (product F c s)) x ≡ 0
  value-key p s c x y e z =
      Values.value-added F L p (product F c s) x ∙ ap (λ w. value F p x ⊕ w) (Values.value-product F L c s x ∙ ap (λ w. w ⊗ value F s x) e) ∙ z

  pub hits-roots : (p s c xs ys : List ℕ) → Meets F p s xs ys → AllByRecursion (λ x. value F (added F p (product F c s)) x ≡ 0) (hits F c xs ys)
  hits-roots p s c [] ys m = tt
  hits-roots p s c (x ∷ xs) [] m = tt
  hits-roots p s c (x ∷ xs) (y ∷ ys) m = go (eqb (value F c x) y) refl (hits-roots p s c xs ys m.1)
    where
      go : (b : Bool) → eqb (value F c x) y ≡ b → AllByRecursion (λ z. value F (added F p (product F c s)) z ≡ 0) (hits F c xs ys) → AllByRecursion (λ z. value F (added F p (product F c s)) z ≡ 0) (cond b (x ∷ hits F c xs ys) (hits F c xs ys))
      go true e r = (value-key p s c x y (eqb-true _ _ e) m.0, r)
      go false e r = r

  -- with a numbers in Q0 and t + 1 in Q1
  pub key : (p s c xs ys : List ℕ) (t : ℕ) → length s ≡ suc t → Below q p → Distinct xs → Below q xs → length xs ≡ length ys → Meets F p s xs ys
      → length p + t ≤ length xs → length c + t ≤ length p → differ (word F xs c) ys ≤ t → Zeros (added F p (product F c s))
  key p s c xs ys t ls hp ds hx e m lp lc near =
      Roots.roots_bound F L (hits F c xs ys) (added F p (product F c s)) (hits-distinct c xs ys ds) (hits-all (λ x. x < q) c xs ys hx)
      (Values.added-below F L p (product F c s) hp (Values.product-below F L c s)) (hits-roots p s c xs ys m)
      (omega (arith, Values.length-added F L p (product F c s), Values.length-product F L c s t ls, hits-count c xs ys e))

  misses-all : (P : ℕ → Type 0) (c xs ys : List ℕ) → AllByRecursion P xs → AllByRecursion P (misses F c xs ys)
  misses-all P c [] ys h = tt
  misses-all P c (x ∷ xs) [] h = tt
  misses-all P c (x ∷ xs) (y ∷ ys) h =
      elim (eqb (value F c x) y) as (λ b. AllByRecursion P (cond b (misses F c xs ys) (x ∷ misses F c xs ys))) [ true ↦ misses-all P c xs ys h.1 | false ↦ (h.0, misses-all P c xs ys h.1) ]

  misses-distinct : (c xs ys : List ℕ) → Distinct xs → Distinct (misses F c xs ys)
  misses-distinct c [] ys h = tt
  misses-distinct c (x ∷ xs) [] h = tt
  misses-distinct c (x ∷ xs) (y ∷ ys) h =
      elim (eqb (value F c x) y) as (λ b. Distinct (cond b (misses F c xs ys) (x ∷ misses F c xs ys)))
      [ true ↦ misses-distinct c xs ys h.1 | false ↦ (misses-all (λ z. z ≢ x) c xs ys h.0, misses-distinct c xs ys h.1) ]

  misses-count : (c xs ys : List ℕ) → length xs ≡ length ys → length (misses F c xs ys) ≡ differ (word F xs c) ys
  misses-count c [] [] e = refl
  misses-count c [] (y ∷ ys) e = absurd (omega arith)
  misses-count c (x ∷ xs) [] e = absurd (omega arith)
  misses-count c (x ∷ xs) (y ∷ ys) e = go (eqb (value F c x) y) (misses-count c xs ys (omega arith))
    where
      go : (b : Bool) → length (misses F c xs ys) ≡ differ (word F xs c) ys → length (cond b (misses F c xs ys) (x ∷ misses F c xs ys)) ≡ cond b 0 1 + differ (word F xs c) ys
      go true r = omega arith
      go false r = omega arith

  -- where Q0 = -c Q1 and Q0 + y Q1 is 0, y is the value of c or Q1 is 0
  root_of : (p s c : List ℕ) (x y : ℕ) → y < q → Divides F p s c → value F p x ⊕ y ⊗ value F s x ≡ 0 → (value F c x ≡ y → ⊥) → value F s x ≡ 0
  root_of p s c x y hy z e ne =
      let u = value F c x in
      let v = value F s x in
      let r = value F p x in
      let hu = Roots.value-below F L c x in
      let hv = Roots.value-below F L s x in
      let whole : r ⊕ u ⊗ v ≡ 0 = ap (λ w. r ⊕ w) (sym (Values.value-product F L c s x)) ∙ sym (Values.value-added F L p (product F c s) x) ∙ Roots.value-zeros F L x (added F p (product F c s)) z in
      let same : u ⊗ v ≡ y ⊗ v = Algebra.cancel F L r (u ⊗ v) (y ⊗ v) (L.times_below u v) (L.times_below y v) (whole ∙ sym e) in
      let none : (u ⊕ neg y) ⊗ v ≡ 0 =
      Algebra.spread-right F L u (neg y) v ∙ ap (λ w. w ⊕ neg y ⊗ v) same ∙ sym (Algebra.spread-right F L y (neg y) v) ∙ ap (λ w. w ⊗ v) (L.plus_opposite y) ∙ Algebra.zero-times F L v in
      Algebra.no_divisor F L (u ⊕ neg y) v (L.plus_below u (neg y)) (λ d. ne (Algebra.same_from F L u y hu hy d)) hv none

  misses-roots : (p s c xs ys : List ℕ) → Below q ys → Divides F p s c → Meets F p s xs ys → AllByRecursion (λ x. value F s x ≡ 0) (misses F c xs ys)
  misses-roots p s c [] ys hy z m = tt
  misses-roots p s c (x ∷ xs) [] hy z m = tt
  misses-roots p s c (x ∷ xs) (y ∷ ys) hy z m = go (eqb (value F c x) y) refl (misses-roots p s c xs ys hy.1 z m.1)
    where
      go : (b : Bool) → eqb (value F c x) y ≡ b → AllByRecursion (λ z. value F s z ≡ 0) (misses F c xs ys) → AllByRecursion (λ z. value F s z ≡ 0) (cond b (misses F c xs ys) (x ∷ misses F c xs ys))
      go true e r = r
      go false e r = (root_of p s c x y hy.0 z m.0 (eqb-false _ _ e), r)

  -- what is -Q0 / Q1 differs from the received numbers in at most t places, where Q1 has t + 1 numbers
  pub sound : (p s c xs ys : List ℕ) (t : ℕ) → length s ≡ suc t → Below q s → (Zeros s → ⊥) → Distinct xs → Below q xs → Below q ys → length xs ≡ length ys → Meets F p s xs ys
      → Divides F p s c → differ (word F xs c) ys ≤ t
  sound p s c xs ys t ls hs nz ds hx hy e m z =
      elim (dec_le (differ (word F xs c) ys) t) [
        | yes h ↦ h
        | no h ↦ absurd (nz (Roots.roots_bound F L (misses F c xs ys) s (misses-distinct c xs ys ds) (misses-all (λ x. x < q) c xs ys hx) hs (misses-roots p s c xs ys hy z m)
            (omega (arith, misses-count c xs ys e, h))))
      ]

  no_values : (p s xs ys : List ℕ) → length xs ≡ length ys → Zeros s → Meets F p s xs ys → AllByRecursion (λ x. value F p x ≡ 0) xs
  no_values p s [] ys e z m = tt
  no_values p s (x ∷ xs) [] e z m = absurd (omega arith)
  no_values p s (x ∷ xs) (y ∷ ys) e z m = (
    sym (L.plus_zero (value F p x) (Roots.value-below F L p x))
        ∙ ap (λ w. value F p x ⊕ w) (sym (ap (λ w. y ⊗ w) (Roots.value-zeros F L x s z) ∙ Algebra.times_zero F L y)) ∙ m.0,
    no_values p s xs ys (omega arith) z m.1,
  )

  -- Q1 is zero only together with Q0
  pub both_zero : (p s xs ys : List ℕ) → Below q p → Distinct xs → Below q xs → length xs ≡ length ys → Meets F p s xs ys → length p ≤ length xs → Zeros s → Zeros p
  both_zero p s xs ys hp ds hx e m le z = Roots.roots_bound F L xs p ds hx hp (no_values p s xs ys e z m) le

  -- the equation's row times the unknowns is Q0(x) + y Q1(x)
  pub dot-powers : (c x : ℕ) (p : List ℕ) → dot F (powers F c x (length p)) p ≡ c ⊗ value F p x
  dot-powers c x [] = sym (Algebra.times_zero F L c)
  dot-powers c x (a ∷ p) =
      ap (λ w. c ⊗ a ⊕ w) (dot-powers (c ⊗ x) x p ∙ L.times_assoc c x (value F p x)) ∙ sym (L.spread c a (x ⊗ value F p x))

  pub dot-append : (a b u v : List ℕ) → length a ≡ length u → dot F (a ++ b) (u ++ v) ≡ dot F a u ⊕ dot F b v
  dot-append [] b [] v e = sym (Algebra.zero-plus F L (dot F b v) (dot-below F L b v))
  dot-append [] b (y ∷ u) v e = absurd (omega arith)
  dot-append (x ∷ a) b [] v e = absurd (omega arith)
  dot-append (x ∷ a) b (y ∷ u) v e = ap (λ w. x ⊗ y ⊕ w) (dot-append a b u v (omega arith)) ∙ sym (L.plus_assoc (x ⊗ y) (dot F a u) (dot F b v))

  pub length-powers : (n c x : ℕ) → length (powers F c x n) ≡ n
  length-powers zero c x = refl
  length-powers (suc n) c x = ap suc (length-powers n (c ⊗ x) x)

  pub powers-below : (n c x : ℕ) → c < q → Below q (powers F c x n)
  powers-below zero c x h = tt
  powers-below (suc n) c x h = (h, powers-below n (c ⊗ x) x (L.times_below c x))

  pub dot-equation : (x y : ℕ) (p s : List ℕ) → dot F (equation F (length p) (length s) x y) (p ++ s) ≡ value F p x ⊕ y ⊗ value F s x
  dot-equation x y p s =
      dot-append (powers F 1 x (length p)) (powers F y x (length s)) p s (length-powers (length p) 1 x)
      ∙ ap₂ ◌⊕◌ (dot-powers 1 x p ∙ L.times_comm 1 (value F p x) ∙ L.times_one (value F p x) (Roots.value-below F L p x)) (dot-powers y x s)

  pub meets_from : (p s xs ys : List ℕ) → ((i : ℕ) → i < length xs → value F p (get_or xs i 0) ⊕ get_or ys i 0 ⊗ value F s (get_or xs i 0) ≡ 0) → Meets F p s xs ys
  meets_from p s [] ys h = tt
  meets_from p s (x ∷ xs) [] h = tt
  meets_from p s (x ∷ xs) (y ∷ ys) h = (h 0 (omega arith), meets_from p s xs ys (λ i l. h (suc i) (omega arith)))

  pub equation-below : (a b x y : ℕ) → y < q → Below q (equation F a b x y)
  equation-below a b x y h = All-append (λ z. z < q) (powers F 1 x a) (powers F y x b) (powers-below a 1 x (Algebra.one_below F L)) (powers-below b y x h)

pub all_parts : (P : ℕ → Type 0) (xs ys : List ℕ) → AllByRecursion P (xs ++ ys) → AllByRecursion P xs × AllByRecursion P ys
all_parts P [] ys h = (tt, h)
all_parts P (x ∷ xs) ys h = let r = all_parts P xs ys h.1 in ((h.0, r.0), r.1)
