-- What is −Q0 / Q1, from a quotient and a remainder.
use Rattle.std.proofs.Common.{◌≡◌, ℕ, zero, suc, ◌-◌, ◌<◌, ◌≤◌, List, [], ◌∷◌, ◌++◌, map, length, get_or, take, drop, replicate, sym, refl, ap, ◌∙◌, subst, ap₂, arith}
use lib.ListN.{length-map, length-replicate}
use Rattle.std.proofs.ByRecursion.{All-append}
use Rattle.std.proofs.lemmas.List.{take_at, drop_at, length-append}
use Rattle.fields.specs.Arithmetic.{Arithmetic}
use Rattle.fields.specs.Numbers.{Below, Zeros}
use Rattle.fields.proofs.Algebra
use Rattle.fields.proofs.Total.{TotalLaws}
use Rattle.linear.specs.Division.{Divided, Shorter}
use Rattle.linear.specs.Polynomials.{added, scaled, product, Same}
use Rattle.linear.proofs.Coefficients
use Rattle.linear.proofs.Coefficients.{get_or-zeros, zeros_from_get_or}
use Rattle.linear.proofs.Values
use Rattle.evaluation.specs.Decoding.{Divides}

zeros_below : (q : ℕ) (z : List ℕ) → 0 < q → Zeros z → Below q z
zeros_below q [] h z = tt
zeros_below q (x ∷ xs) h z = (subst (λ n. n < q) (sym z.0) h, zeros_below q xs h z.1)

zeros_replicate : (n : ℕ) → Zeros (replicate n 0)
zeros_replicate zero = tt
zeros_replicate (suc n) = (refl, zeros_replicate n)

zeros_drop : (l : ℕ) (z : List ℕ) → Zeros z → Zeros (drop l z)
zeros_drop zero z h = h
zeros_drop (suc l) [] h = tt
zeros_drop (suc l) (x ∷ z) h = zeros_drop l z h.1

module _ (F : Arithmetic) (L : TotalLaws F) where
  open F use {order as q, plus as ◌⊕◌, times as ◌⊗◌, opposite as neg}

  infixl 65 ◌⊕◌
  infixl 70 ◌⊗◌
  -- the opposites of a list are its multiple by -1
  pub opposites : (p : List ℕ) → Below q p → map neg p ≡ scaled F (neg 1) p
  opposites [] h = refl
  opposites (a ∷ p) h =
      ap₂ ◌∷◌ (sym (Algebra.minus-left F L 1 a ∙ ap neg (L.times_comm 1 a ∙ L.times_one a h.0))) (opposites p h.1)

  get_or-shifted : (p : List ℕ) (k : ℕ) → get_or (0 ∷ p) (suc k) 0 ≡ get_or p k 0
  get_or-shifted p k = refl

  -- zeros at the end of a factor change no coefficient
  pub product-front : (k : ℕ) (p s : List ℕ) → Zeros (drop k p) → Same (product F p s) (product F (take k p) s)
  product-front zero p s z i = get_or-zeros (product F p s) i (Coefficients.zeros_product F L p s z)
  product-front (suc k) [] s z i = refl
  product-front (suc k) (a ∷ p) s z zero =
      Coefficients.get_or-sum F L (scaled F a s) (0 ∷ product F p s) 0 (Values.scaled-below F L a s) (Algebra.zero-below F L, Values.product-below F L p s)
      ∙ sym (Coefficients.get_or-sum F L (scaled F a s) (0 ∷ product F (take k p) s) 0 (Values.scaled-below F L a s) (Algebra.zero-below F L, Values.product-below F L (take k p) s))
  product-front (suc k) (a ∷ p) s z (suc i) =
      Coefficients.get_or-sum F L (scaled F a s) (0 ∷ product F p s) (suc i) (Values.scaled-below F L a s) (Algebra.zero-below F L, Values.product-below F L p s)
      ∙ ap (λ w. get_or (scaled F a s) (suc i) 0 ⊕ w) (product-front k p s z i)
      ∙ sym (Coefficients.get_or-sum F L (scaled F a s) (0 ∷ product F (take k p) s) (suc i) (Values.scaled-below F L a s) (Algebra.zero-below F L, Values.product-below F L (take k p) s))

  -- coefficient i of -c s
  negated : (c s : List ℕ) (i : ℕ) → get_or (product F (scaled F (neg 1) c) s) i 0 ≡ neg 1 ⊗ get_or (product F c s) i 0
  negated c s i = ap (λ t. get_or t i 0) (Coefficients.product-scaled F L (neg 1) c s) ∙ Coefficients.get_or-scaled F L (neg 1) (product F c s) i

  get_or-below : (p : List ℕ) (i : ℕ) → Below q p → get_or p i 0 < q
  get_or-below [] i h = Algebra.zero-below F L
  get_or-below (a ∷ p) zero h = h.0
  get_or-below (a ∷ p) (suc i) h = get_or-below p i h.1

  minus_one : (x : ℕ) → x < q → neg 1 ⊗ x ≡ neg x
  minus_one x h = Algebra.minus-left F L 1 x ∙ ap neg (L.times_comm 1 x ∙ L.times_one x h)

  -- a quotient of k numbers with no remainder gives -Q0 / Q1
  pub divides_from : (p s Q R : List ℕ) (k : ℕ) → Below q p → Divided F p s Q R → Zeros R → Zeros (drop k Q) → Divides F p s (scaled F (neg 1) (take k Q))
  divides_from p s Q R k hp d zr zq = zeros_from_get_or (added F p (product F (scaled F (neg 1) (take k Q)) s)) (λ i.
      let c = take k Q in
      let x = get_or (product F c s) i 0 in
      let hx : x < q = get_or-below (product F c s) i (Values.product-below F L c s) in
      let at : get_or p i 0 ≡ x = d.whole i ∙ Coefficients.added-zeros F L (product F Q s) R i (Values.product-below F L Q s) zr ∙ product-front k Q s zq i in
      sym (Coefficients.get_or-sum F L p (product F (scaled F (neg 1) c) s) i hp (Values.product-below F L (scaled F (neg 1) c) s)
      ∙ ap₂ ◌⊕◌ at (negated c s i ∙ minus_one x hx) ∙ L.plus_opposite x))

  -- conversely the quotient and the remainder of what has a -Q0 / Q1
  pub divided-by : (p s Q R c : List ℕ) → Below q p → length c ≤ length p → Divided F p s Q R → Divides F p s c → Zeros R × Zeros (drop (length c) Q)
  divided-by p s Q R c hp fits d z =
      let n = length p in
      let k = length c in
      let front = scaled F (neg 1) c in
      let zs = replicate (n - k) 0 in
      let A = front ++ zs in
      let B = replicate n 0 in
      let pos = Algebra.zero-below F L in
      let front_long : length front ≡ k = length-map c (F.times (neg 1)) in
      let A-long : length A ≡ n = omega (arith, length-append front zs, front_long, length-replicate {A = ℕ} (n - k) 0) in
      let A-below : Below q A = All-append (λ x. x < q) front zs (Values.scaled-below F L (neg 1) c) (zeros_below q zs pos (zeros_replicate (n - k))) in
      let tail : Zeros (drop k A) = subst Zeros (sym (drop_at front zs k front_long)) (zeros_replicate (n - k)) in
      let whole : Same p (added F (product F A s) B) = (λ i.
      let x = get_or (product F c s) i 0 in
      let y = get_or p i 0 in
      let hx : x < q = get_or-below (product F c s) i (Values.product-below F L c s) in
      let hy : y < q = get_or-below p i hp in
      let sum : y ⊕ x ≡ 0 = sym (Coefficients.get_or-sum F L p (product F c s) i hp (Values.product-below F L c s)) ∙ get_or-zeros (added F p (product F c s)) i z in
      let is : y ≡ neg x = Algebra.cancel F L x y (neg x) hy (L.opposite_below x) (L.plus_comm x y ∙ sum ∙ sym (L.plus_opposite x)) in
      is ∙ sym (minus_one x hx) ∙ sym (negated c s i) ∙ ap (λ t. get_or (product F t s) i 0) (sym (take_at front zs k front_long))
      ∙ sym (product-front k A s tail i) ∙ sym (Coefficients.added-zeros F L (product F A s) B i (Values.product-below F L A s) (zeros_replicate n))) in
      let short : Shorter B s = (d.shorter.0, d.shorter.1, zeros_drop d.shorter.0 B (zeros_replicate n)) in
      let same = d.alone A B A-long (length-replicate {A = ℕ} n 0) A-below (zeros_below q B pos (zeros_replicate n)) whole short in
      (subst Zeros same.1 (zeros_replicate n), subst (λ (t : List ℕ). Zeros (drop k t)) same.0 tail)
