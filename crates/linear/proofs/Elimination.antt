-- One column of the elimination.
use Rattle.std.proofs.Common.{◌≡◌, ℕ, zero, suc, ◌+◌, ◌-◌, ◌*◌, ◌<◌, ◌≢◌, List, ◌∷◌, ◌++◌, length, get_or, drop, replicate, Some, sym, refl, ap, ◌∙◌, subst, ap₂, suc-mul, arith}
use lib.ListN.{length-map}
use Rattle.std.proofs.lemmas.List.{length-append, drop-map, length-drop, drop_more, get_or-map}
use Rattle.std.proofs.ByRecursion.{All-get_or}
use Rattle.fields.specs.Arithmetic.{Arithmetic, total, inverted}
use Rattle.fields.proofs.Total.{TotalLaws, inverse-some}
use Rattle.fields.proofs.Algebra
use Rattle.fields.specs.Numbers.{Below, Zeros}
use Rattle.linear.specs.Polynomials.{scaled}
use Rattle.linear.specs.Equations.{row, dot, reduced, Solves, Grid}
use Rattle.linear.proofs.Kernel
use Rattle.linear.proofs.Lists.{get_or-added}
use Rattle.linear.proofs.Grid.{row_ends, length-row, row_first, row-rest}

pub zeros_replicate : (n : ℕ) → Zeros (replicate n 0)
zeros_replicate zero = tt
zeros_replicate (suc n) = (refl, zeros_replicate n)

-- a first row with a number other than 0 in column c, and n rows below it, before and after that row, scaled to a 1, cleared the column
pub record Column (F : Arithmetic) (w c n : ℕ) (top rest rest' : List ℕ) : Type 0 where
  pub within : c < w
  pub wide : length top ≡ w
  pub long : n * w ≡ length rest
  pub long' : n * w ≡ length rest'
  pub below : get_or top c 0 < F.order
  pub lead : get_or top c 0 ≢ 0
  pub grid : Grid F w n rest
  pub clear : (k : ℕ) → k < n → row w k rest' ≡ reduced F (row w k rest) (get_or (row w k rest) c 0) (scaled F (F.inverse (get_or top c 0)) top)

-- all of it, of the rows s, where y is what the inverse answered and `first` the row that was scaled by it
pub column_made : (F : Arithmetic) (w c count y : ℕ) (s top rest rest' first : List ℕ) → c < w → 0 < count → count * w ≡ length s → s ≡ top ++ rest → length top ≡ w → length rest' ≡ length rest
    → Grid (total F) w count s → Some y ≡ inverted F (get_or top c 0) → first ≡ scaled (total F) y top
    → ((k : ℕ) → k < count - 1 → row w k rest' ≡ reduced (total F) (row w k rest) (get_or (row w k rest) c 0) first)
    → Column (total F) w c (count - 1) top rest rest' × (first ≡ scaled (total F) ((total F).inverse (get_or top c 0)) top)
column_made F w c count y s top rest rest' first cw some size value wide kept grid inverse is cleared =
    let n = count - 1 in
    let T = total F in
    let next : count ≡ suc n = omega arith in
    let times : count * w ≡ n * w + w = ap (λ m. m * w) next ∙ suc-mul n w in
    let parts : length s ≡ length top + length rest = ap length value ∙ length-append top rest in
    let known : (y ≡ T.inverse (get_or top c 0)) × (get_or top c 0 < F.order) × (get_or top c 0 ≢ 0) = inverse-some F (get_or top c 0) y inverse in
    let scaled-first : first ≡ scaled T (T.inverse (get_or top c 0)) top = is ∙ ap (λ b. scaled T b top) known.0 in (
      record {
        within = cw;
        wide = wide;
        long = omega arith;
        long' = omega arith;
        below = known.1;
        lead = known.2;
        grid = λ i l. subst (Below F.order) (ap (row w (suc i)) value ∙ row-rest w i top rest wide) (grid (suc i) (omega arith));
        clear = λ k l. cleared k l ∙ ap (reduced T (row w k rest) (get_or (row w k rest) c 0)) scaled-first;
      },
      scaled-first,
    )

module _ (F : Arithmetic) (L : TotalLaws F) where
  open F use {order as q, plus as ◌⊕◌, times as ◌⊗◌, opposite as neg, inverse as inv}

  infixl 65 ◌⊕◌
  infixl 70 ◌⊗◌
  -- a solution of the columns after c, where column c has a 0
  pub under_zero : (c y : ℕ) (r u : List ℕ) → c < length r → get_or r c 0 ≡ 0 → dot F (drop (c + 1) r) u ≡ 0 → dot F (drop c r) (y ∷ u) ≡ 0
  under_zero c y r u h z e =
      ap (λ t. dot F t (y ∷ u)) (drop_more r c 0 h) ∙ ap₂ ◌⊕◌ (ap (λ x. x ⊗ y) z ∙ Algebra.zero-times F L y) e ∙ L.plus_zero 0 (Algebra.zero-below F L)

  -- and where it has a 1
  pub under_one : (c : ℕ) (r u : List ℕ) → c < length r → get_or r c 0 ≡ 1 → dot F (drop c r) (neg (dot F (drop (c + 1) r) u) ∷ u) ≡ 0
  under_one c r u h one =
      let d = dot F (drop (c + 1) r) u in
      ap (λ t. dot F t (neg d ∷ u)) (drop_more r c 0 h)
      ∙ ap (λ x. x ⊕ d) (ap (λ x. x ⊗ neg d) one ∙ L.times_comm 1 (neg d) ∙ L.times_one (neg d) (L.opposite_below d))
      ∙ L.plus_comm (neg d) d ∙ L.plus_opposite d

  inverse-nonzero : (a : ℕ) → a < q → a ≢ 0 → inv a ≢ 0
  inverse-nonzero a h n e = one-zero (sym (L.times_inverse a h n) ∙ ap (λ x. a ⊗ x) e ∙ Algebra.times_zero F L a)
    where
      one-zero : ◌≡◌ {A = ℕ} 1 0 → ⊥
      one-zero z = omega arith

  -- r less its own number in column c times a row with a 1 there has a 0 there
  pub cleared : (c : ℕ) (r p : List ℕ) → length p ≡ length r → c < length r → get_or r c 0 < q → get_or p c 0 ≡ 1 → get_or (reduced F r (get_or r c 0) p) c 0 ≡ 0
  cleared c r p e h below one =
      let x = get_or r c 0 in
      get_or-added F (neg x) r p c e h ∙ ap (λ w. x ⊕ w) (ap (λ w. neg x ⊗ w) one ∙ L.times_one (neg x) (L.opposite_below x)) ∙ L.plus_opposite x

  -- the rows of a column that is cleared
  module _ (w c n : ℕ) (top rest rest' : List ℕ) (C : Column F w c n top rest rest') where
    abbrev first : List ℕ
    first = scaled F (inv (get_or top c 0)) top

    first-long : length first ≡ w
    first-long = length-map top (F.times (inv (get_or top c 0))) ∙ C.wide

    first_one : get_or first c 0 ≡ 1
    first_one = get_or-map (F.times (inv (get_or top c 0))) top c 0 0 (omega arith) ∙ L.times_comm (inv (get_or top c 0)) (get_or top c 0) ∙ L.times_inverse (get_or top c 0) C.below C.lead

    rest-long : (k : ℕ) → k < n → length (row w k rest) ≡ w
    rest-long k l = length-row w k rest (omega (arith, row_ends k n w l))

    same_long : (k : ℕ) → k < n → length first ≡ length (row w k rest)
    same_long k l = first-long ∙ sym (rest-long k l)

    pub rest-grid : Grid F w n rest'
    rest-grid k l = subst (Below q) (sym (C.clear k l)) (Kernel.reduced-below F L (row w k rest) first (get_or (row w k rest) c 0) (same_long k l))

    rest-zero : (k : ℕ) → k < n → get_or (row w k rest') c 0 ≡ 0
    rest-zero k l =
        let e = rest-long k l in
        ap (λ r. get_or r c 0) (C.clear k l)
        ∙ cleared c (row w k rest) first (same_long k l) (omega arith) (All-get_or (λ x. x < q) (row w k rest) c 0 (omega arith) (C.grid k l)) first_one

    -- what solves the rest from the next column on, with the first row's answer before it, solves all
    pub step_solves : (v : List ℕ) → Solves F w (c + 1) n rest' v → Solves F w c (suc n) (top ++ rest) (neg (dot F (drop (c + 1) first) v) ∷ v)
    step_solves v h zero l =
        let u = neg (dot F (drop (c + 1) first) v) ∷ v in
        let one : dot F (drop c first) u ≡ 0 = under_one c first v (omega (arith, first-long)) first_one in
        ap (λ r. dot F (drop c r) u) (row_first w top rest C.wide)
        ∙ Kernel.solves-scaled F L (drop c top) u (inv (get_or top c 0)) (L.inverse_below (get_or top c 0)) (inverse-nonzero (get_or top c 0) C.below C.lead)
        (ap (λ r. dot F r u) (sym (drop-map (F.times (inv (get_or top c 0))) c top)) ∙ one)
    step_solves v h (suc k) l =
        let u = neg (dot F (drop (c + 1) first) v) ∷ v in
        let kn : k < n = omega arith in
        let r = row w k rest in
        let b = get_or r c 0 in
        let long-k : length (row w k rest') ≡ w = length-row w k rest' (omega (arith, row_ends k n w kn)) in
        let one : dot F (drop c first) u ≡ 0 = under_one c first v (omega (arith, first-long)) first_one in
        let done : dot F (drop c (row w k rest')) u ≡ 0 = under_zero c (neg (dot F (drop (c + 1) first) v)) (row w k rest') v (omega arith) (rest-zero k kn) (h k kn) in
        ap (λ t. dot F (drop c t) u) (row-rest w k top rest C.wide)
        ∙ Kernel.solves-reduced F L (drop c r) (drop c first) u b (omega (arith, length-drop c first, length-drop c r, same_long k kn))
        (ap (λ t. dot F t u) (sym (ap (drop c) (C.clear k kn) ∙ Kernel.drop-reduced F c r b first)) ∙ done) one
