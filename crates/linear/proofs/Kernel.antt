-- What row operations do to solutions.
use Rattle.std.proofs.Common.{◌≡◌, ℕ, zero, suc, ◌+◌, ◌*◌, ◌<◌, ◌≤◌, ◌≢◌, List, [], ◌∷◌, ◌++◌, length, get_or, drop, sym, refl, ap, ◌∙◌, subst, ap₂, arith}
use Rattle.std.proofs.lemmas.List.{drop-map, length-drop, get_or_append_left}
use Rattle.std.proofs.ByRecursion.{All-get_or}
use Rattle.fields.specs.Arithmetic.{Arithmetic}
use Rattle.fields.proofs.Total.{TotalLaws}
use Rattle.fields.proofs.Algebra
use Rattle.fields.specs.Numbers.{Below, Zeros}
use Rattle.linear.specs.Polynomials.{added, scaled}
use Rattle.linear.specs.Equations.{row, dot, reduced, Solves, Grid}
use Rattle.linear.proofs.Lists.{get_or-added, length-added}
use Rattle.linear.proofs.Grid.{row_ends, length-row, row-suc, row_first, row-rest}

pub added-nil : (F : Arithmetic) (t : List ℕ) → added F t [] ≡ t
added-nil F [] = refl
added-nil F (a ∷ t) = refl

pub drop-added : (F : Arithmetic) (c : ℕ) (t s : List ℕ) → drop c (added F t s) ≡ added F (drop c t) (drop c s)
drop-added F zero t s = refl
drop-added F (suc c) [] [] = refl
drop-added F (suc c) [] (b ∷ s) = refl
drop-added F (suc c) (a ∷ t) [] = sym (added-nil F (drop c t))
drop-added F (suc c) (a ∷ t) (b ∷ s) = drop-added F c t s

pub drop-reduced : (F : Arithmetic) (c : ℕ) (t : List ℕ) (b : ℕ) (p : List ℕ) → drop c (reduced F t b p) ≡ reduced F (drop c t) b (drop c p)
drop-reduced F c t b p = drop-added F c t (scaled F (F.opposite b) p) ∙ ap (added F (drop c t)) (drop-map (F.times (F.opposite b)) c p)

module _ (F : Arithmetic) (L : TotalLaws F) where
  open F use {order as q, plus as ◌⊕◌, times as ◌⊗◌, opposite as neg, inverse as inv}

  infixl 65 ◌⊕◌
  infixl 70 ◌⊗◌
  pub dot-below : (a u : List ℕ) → dot F a u < q
  dot-below [] u = Algebra.zero-below F L
  dot-below (x ∷ a) [] = Algebra.zero-below F L
  dot-below (x ∷ a) (y ∷ u) = L.plus_below (x ⊗ y) (dot F a u)

  nothing : (b : ℕ) → 0 ≡ 0 ⊕ b ⊗ 0
  nothing b = sym (ap (λ w. 0 ⊕ w) (Algebra.times_zero F L b) ∙ L.plus_zero 0 (Algebra.zero-below F L))

  pub dot-added : (b : ℕ) (t p u : List ℕ) → length p ≡ length t → dot F (added F t (scaled F b p)) u ≡ dot F t u ⊕ b ⊗ dot F p u
  dot-added b [] [] u e = nothing b
  dot-added b [] (x ∷ p) u e = absurd (omega arith)
  dot-added b (a ∷ t) [] u e = absurd (omega arith)
  dot-added b (a ∷ t) (x ∷ p) [] e = nothing b
  dot-added b (a ∷ t) (x ∷ p) (y ∷ u) e =
      let dt = dot F t u in
      let dp = dot F p u in
      ap₂ ◌⊕◌ (Algebra.spread-right F L a (b ⊗ x) y) (dot-added b t p u (omega arith))
      ∙ Algebra.middle F L (a ⊗ y) (b ⊗ x ⊗ y) dt (b ⊗ dp)
      ∙ ap (λ w. a ⊗ y ⊕ dt ⊕ w) (ap (λ w. w ⊕ b ⊗ dp) (L.times_assoc b x y) ∙ sym (L.spread b (x ⊗ y) dp))

  pub dot-scaled : (b : ℕ) (p u : List ℕ) → dot F (scaled F b p) u ≡ b ⊗ dot F p u
  dot-scaled b [] u = sym (Algebra.times_zero F L b)
  dot-scaled b (x ∷ p) [] = sym (Algebra.times_zero F L b)
  dot-scaled b (x ∷ p) (y ∷ u) = ap₂ ◌⊕◌ (L.times_assoc b x y) (dot-scaled b p u) ∙ sym (L.spread b (x ⊗ y) (dot F p u))

  -- what solves a row less a multiple of another, and that other, solves the row
  pub solves-reduced : (t p u : List ℕ) (b : ℕ) → length p ≡ length t → dot F (reduced F t b p) u ≡ 0 → dot F p u ≡ 0 → dot F t u ≡ 0
  solves-reduced t p u b e er ep =
      sym (L.plus_zero (dot F t u) (dot-below t u))
      ∙ ap (λ w. dot F t u ⊕ w) (sym (Algebra.times_zero F L (neg b)) ∙ ap (λ w. neg b ⊗ w) (sym ep))
      ∙ sym (dot-added (neg b) t p u e) ∙ er

  -- what solves a multiple of a row by a number with an inverse solves the row
  pub solves-scaled : (p u : List ℕ) (b : ℕ) → b < q → b ≢ 0 → dot F (scaled F b p) u ≡ 0 → dot F p u ≡ 0
  solves-scaled p u b hb nb e = Algebra.no_divisor F L b (dot F p u) hb nb (dot-below p u) (sym (dot-scaled b p u) ∙ e)

  pub reduced-below : (t p : List ℕ) (b : ℕ) → length p ≡ length t → Below q (reduced F t b p)
  reduced-below [] [] b e = tt
  reduced-below [] (x ∷ p) b e = absurd (omega arith)
  reduced-below (a ∷ t) [] b e = absurd (omega arith)
  reduced-below (a ∷ t) (x ∷ p) b e = (L.plus_below a (neg b ⊗ x), reduced-below t p b (omega arith))

  pub dot-zeros : (a u : List ℕ) → Zeros u → dot F a u ≡ 0
  dot-zeros [] u z = refl
  dot-zeros (x ∷ a) [] z = refl
  dot-zeros (x ∷ a) (y ∷ u) z = ap₂ ◌⊕◌ (ap (λ w. x ⊗ w) z.0 ∙ Algebra.times_zero F L x) (dot-zeros a u z.1) ∙ L.plus_zero 0 (Algebra.zero-below F L)

  neg_one : neg 1 ≢ 0
  neg_one e = one-zero (sym (L.plus_zero 1 (Algebra.one_below F L)) ∙ ap (λ w. 1 ⊕ w) (sym e) ∙ L.plus_opposite 1)
    where
      one-zero : ◌≡◌ {A = ℕ} 1 0 → ⊥
      one-zero z = omega arith

  -- the first of n rows less row p, which is another
  module _ (w c n k : ℕ) (s ys : List ℕ) (long : n * w ≡ length s) (within : suc k < n) (is : ys ≡ reduced F (row w 0 s) 1 (row w (suc k) s)) where
    first_ends : 0 * w + w ≤ length s
    first_ends = omega (arith, row_ends 0 n w (omega arith))

    other_ends : suc k * w + w ≤ length s
    other_ends = omega (arith, row_ends (suc k) n w within)

    same_long : length (row w (suc k) s) ≡ length (row w 0 s)
    same_long = length-row w (suc k) s other_ends ∙ sym (length-row w 0 s first_ends)

    ys-long : length ys ≡ w
    ys-long = ap length is ∙ length-added F (neg 1) (row w 0 s) (row w (suc k) s) same_long ∙ length-row w 0 s first_ends

    raised_other : (i : ℕ) → row w (suc i) (ys ++ drop w s) ≡ row w (suc i) s
    raised_other i = row-rest w i ys (drop w s) ys-long ∙ sym (row-suc w i s)

    raised_first : row w 0 (ys ++ drop w s) ≡ reduced F (row w 0 s) 1 (row w (suc k) s)
    raised_first = row_first w ys (drop w s) ys-long ∙ is

    pub raised_keeps : (u : List ℕ) → Solves F w c n (ys ++ drop w s) u → Solves F w c n s u
    raised_keeps u h zero l =
        let p : dot F (drop c (row w (suc k) s)) u ≡ 0 = ap (λ r. dot F (drop c r) u) (sym (raised_other k)) ∙ h (suc k) within in
        let r : dot F (reduced F (drop c (row w 0 s)) 1 (drop c (row w (suc k) s))) u ≡ 0 =
        ap (λ t. dot F t u) (sym (ap (drop c) raised_first ∙ drop-reduced F c (row w 0 s) 1 (row w (suc k) s))) ∙ h 0 l in
        solves-reduced (drop c (row w 0 s)) (drop c (row w (suc k) s)) u 1 (omega (arith, length-drop c (row w (suc k) s), length-drop c (row w 0 s), same_long)) r p
    raised_keeps u h (suc i) l = ap (λ r. dot F (drop c r) u) (sym (raised_other i)) ∙ h (suc i) l

    pub raised_grid : Grid F w n s → Grid F w n (ys ++ drop w s)
    raised_grid h zero l = subst (Below q) (sym raised_first) (reduced-below (row w 0 s) (row w (suc k) s) 1 same_long)
    raised_grid h (suc i) l = subst (Below q) (sym (raised_other i)) (h (suc i) l)

    pub raised_lead : c < w → Grid F w n s → get_or (row w 0 s) c 0 ≡ 0 → get_or (row w (suc k) s) c 0 ≢ 0 → get_or (ys ++ drop w s) c 0 ≢ 0
    raised_lead cw h z nz e =
        let x = get_or (row w (suc k) s) c 0 in
        let xq : x < q = All-get_or (λ v. v < q) (row w (suc k) s) c 0 (omega (arith, length-row w (suc k) s other_ends)) (h (suc k) within) in
        let at : get_or ys c 0 ≡ 0 ⊕ neg 1 ⊗ x =
        ap (λ r. get_or r c 0) is ∙ get_or-added F (neg 1) (row w 0 s) (row w (suc k) s) c same_long (omega (arith, length-row w 0 s first_ends)) ∙ ap (λ v. v ⊕ neg 1 ⊗ x) z in
        nz (Algebra.no_divisor F L (neg 1) x (L.opposite_below 1) neg_one xq
        (sym (Algebra.zero-plus F L (neg 1 ⊗ x) (L.times_below (neg 1) x)) ∙ sym at ∙ sym (get_or_append_left ys (drop w s) 0 c (omega (arith, ys-long))) ∙ e))
