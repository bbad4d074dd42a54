-- Long division: each turn keeps dividend = quotient × divisor + remainder, and there is one answer.
use Rattle.std.proofs.Common.{◌≡◌, ℕ, zero, suc, ◌+◌, ◌-◌, ◌<◌, ◌≤◌, ◌≢◌, List, [], ◌∷◌, ◌++◌, length, get_or, take, drop, set, replicate, sym, refl, ap, ◌∙◌, subst, ap₂, arith}
use native.Mathlib.Decide.{dec_le}
use lib.ListN.{length-map}
use borrow.Rule.Slice.PartMut.{put_mid}
use Rattle.std.proofs.ByRecursion.{All-get_or, All-append, All-take, All-drop, All-set, All-weaker}
use Rattle.std.proofs.lemmas.List.{drop_more, drop_at, drop_all, drop-drop, drop-map, drop-set, drop-take, get_or-drop, get_or-take, take-take, length-take-le, length-drop}
use Rattle.std.proofs.lemmas.Slice.{take-put_mid_below}
use Rattle.fields.specs.Arithmetic.{Arithmetic}
use Rattle.fields.specs.Numbers.{Below, Zeros}
use Rattle.fields.proofs.Algebra
use Rattle.fields.proofs.Total.{TotalLaws}
use Rattle.linear.specs.Division.{Leads, Shorter, Divided}
use Rattle.linear.specs.Equations.{reduced}
use Rattle.linear.specs.Polynomials.{value, added, scaled, product, Same}
use Rattle.linear.proofs.Coefficients
use Rattle.linear.proofs.Elimination.{zeros_replicate}
use Rattle.linear.proofs.Kernel.{added-nil, drop-added, reduced-below}
use Rattle.linear.proofs.Values

-- a sum with a shorter list changes the front only
pub added-front : (F : Arithmetic) (p s : List ℕ) → length s ≤ length p → added F p s ≡ added F (take (length s) p) s ++ drop (length s) p
added-front F [] [] h = refl
added-front F [] (b ∷ s) h = absurd (omega arith)
added-front F (a ∷ p) [] h = refl
added-front F (a ∷ p) (b ∷ s) h = ap (λ r. F.plus a b ∷ r) (added-front F p s (omega arith))

-- what a row less a multiple of r, in the middle of p, makes of p from there on
pub drop-row : (F : Arithmetic) (i w b : ℕ) (p r : List ℕ) → length r ≡ w → i + w ≤ length p → drop i (put_mid i w p (reduced F (take w (drop i p)) b r)) ≡ added F (drop i p) (scaled F (F.opposite b) r)
drop-row F i w b p r e h =
    let m = scaled F (F.opposite b) r in
    let long : length m ≡ w = length-map r (F.times (F.opposite b)) ∙ e in
    drop_at (take i p) (added F (take w (drop i p)) m ++ drop w (drop i p)) i (length-take-le i p (omega arith))
    ∙ sym (added-front F (drop i p) m (omega (arith, length-drop i p)) ∙ ap (λ n. added F (take n (drop i p)) m ++ drop n (drop i p)) long)

pub all_put_mid : (q a k : ℕ) (xs ys : List ℕ) → Below q xs → Below q ys → Below q (put_mid a k xs ys)
all_put_mid q a k xs ys hx hy =
    All-append (λ x. x < q) (take a xs) (ys ++ drop k (drop a xs)) (All-take (λ x. x < q) a xs hx)
    (All-append (λ x. x < q) ys (drop k (drop a xs)) hy (All-drop (λ x. x < q) k (drop a xs) (All-drop (λ x. x < q) a xs hx)))

-- no place past the highest number other than 0 has one
pub lead-highest : (lead l : ℕ) (s : List ℕ) → Zeros (drop (lead + 1) s) → get_or s l 0 ≢ 0 → l ≤ lead
lead-highest lead l s z n = go (dec_le l lead)
  where
    go : Dec (l ≤ lead) → l ≤ lead
    go (yes le) = le
    go (no gt) =
        let e : lead + 1 + (l - (lead + 1)) ≡ l = omega arith in
        absurd (n (ap (λ k. get_or s k 0) (sym e) ∙ sym (get_or-drop (lead + 1) s (l - (lead + 1)) 0) ∙ Coefficients.get_or-zeros (drop (lead + 1) s) (l - (lead + 1)) z))

-- zeros from l on are zeros from any later place on
pub zeros_later : (l m : ℕ) (r : List ℕ) → l ≤ m → Zeros (drop l r) → Zeros (drop m r)
zeros_later l m r h z =
    let e : l + (m - l) ≡ m = omega arith in
    subst (λ k. Zeros (drop k r)) e (subst Zeros (drop-drop (m - l) l r) (All-drop (λ x. x ≡ 0) (m - l) (drop l r) z))

-- division of p by s done down to place i, where d holds what is left of p and c the quotient
pub record Down (F : Arithmetic) (lead : ℕ) (p s : List ℕ) (i : ℕ) (d c : List ℕ) : Type 0 where
  pub untouched : take i d ≡ take i p
  pub cleared : Zeros (drop (i + lead) d)
  pub whole : Same (drop i p) (added F (product F (drop i c) s) (drop i d))
  pub left_below : Below F.order d
  pub quotient_below : Below F.order c

module _ (F : Arithmetic) (L : TotalLaws F) where
  open F use {order as q, plus as ◌⊕◌, times as ◌⊗◌, opposite as neg, inverse as inv}

  infixl 65 ◌⊕◌
  infixl 70 ◌⊗◌
  zeros_below : (z : List ℕ) → Zeros z → Below q z
  zeros_below z h = All-weaker (λ x. x ≡ 0) (λ x. x < q) (λ x e. subst (λ (y : ℕ). y < q) (sym e) (Algebra.zero-below F L)) z h

  -- a polynomial after the constant 0, in a sum of zeros
  under_constant : (p t : List ℕ) → Below q t → Zeros (added F (0 ∷ p) t) → Zeros (added F p (drop 1 t)) × (Zeros (drop 1 t) → Zeros t)
  under_constant p [] h z = (subst Zeros (sym (added-nil F p)) z.1, λ e. tt)
  under_constant p (b ∷ t) h z = (z.1, λ e. (sym (Algebra.zero-plus F L b h.0) ∙ z.0, e))

  -- only zeros times s plus a remainder shorter than s make zeros
  pub zero-alone : (lead : ℕ) (s : List ℕ) → Leads q lead s → (a r : List ℕ) → Below q a → Below q r → Zeros (drop lead r) → Zeros (added F (product F a s) r) → Zeros a × Zeros r
  zero-alone lead s S [] r ha hr short z = (tt, z)
  zero-alone lead s S (b ∷ a) r ha hr short z =
      let t = added F (scaled F b s) r in
      let t-below : Below q t = Values.added-below F L (scaled F b s) r (Values.scaled-below F L b s) hr in
      let opened : Zeros (added F (0 ∷ product F a s) t) = subst Zeros (Coefficients.added-left F L (scaled F b s) (0 ∷ product F a s) r) z in
      let under : Zeros (added F (product F a s) (drop 1 t)) × (Zeros (drop 1 t) → Zeros t) = under_constant (product F a s) t t-below opened in
      let e : lead + 1 ≡ 1 + lead = omega arith in
      let s-last : Zeros (drop (1 + lead) s) = subst (λ k. Zeros (drop k s)) e S.highest.2 in
      let r_last : Zeros (drop (1 + lead) r) = zeros_later lead (1 + lead) r (omega arith) short in
      let t-short : Zeros (drop lead (drop 1 t)) =
      subst Zeros (sym (drop-drop lead 1 t ∙ drop-added F (1 + lead) (scaled F b s) r ∙ ap (λ x. added F x (drop (1 + lead) r)) (drop-map (F.times b) (1 + lead) s)))
      (Coefficients.zeros_added F L (scaled F b (drop (1 + lead) s)) (drop (1 + lead) r) (Coefficients.zeros_scaled F L b (drop (1 + lead) s) s-last) r_last) in
      let rest : Zeros a × Zeros (drop 1 t) = zero-alone lead s S a (drop 1 t) ha.1 (All-drop (λ x. x < q) 1 t t-below) t-short under.0 in
      let t-zeros : Zeros t = under.1 rest.1 in
      let r-lead : get_or r lead 0 ≡ 0 = ap (λ k. get_or r k 0) zero_more ∙ sym (get_or-drop lead r 0 0) ∙ Coefficients.get_or-zeros (drop lead r) 0 short in
      let s-lead : get_or s lead 0 < q = All-get_or (λ x. x < q) s lead 0 S.highest.0 S.below in
      let here : b ⊗ get_or s lead 0 ≡ 0 =
      sym (L.plus_zero (b ⊗ get_or s lead 0) (L.times_below b (get_or s lead 0)))
      ∙ ap₂ ◌⊕◌ (sym (Coefficients.get_or-scaled F L b s lead)) (sym r-lead)
      ∙ sym (Coefficients.get_or-sum F L (scaled F b s) r lead (Values.scaled-below F L b s) hr) ∙ Coefficients.get_or-zeros t lead t-zeros in
      let b-zero : b ≡ 0 = Algebra.no_divisor F L (get_or s lead 0) b s-lead S.highest.1 ha.0 (L.times_comm (get_or s lead 0) b ∙ here) in
      ((b-zero, rest.0), Coefficients.zeros_right F L (scaled F b s) r hr (Coefficients.zeros_by_zero F L b s b-zero) t-zeros)
    where
      zero_more : lead ≡ lead + 0
      zero_more = omega arith

  shorter-lead : (lead : ℕ) (s r : List ℕ) → Leads q lead s → Shorter r s → Zeros (drop lead r)
  shorter-lead lead s r S h = zeros_later h.0 lead r (lead-highest lead h.0 s S.highest.2 h.1) h.2

  -- two quotients with remainders shorter than s, of one polynomial, are one
  pub division_alone : (lead : ℕ) (p s a b c d : List ℕ) → Leads q lead s → length a ≡ length c → length b ≡ length d → Below q a → Below q b → Below q c → Below q d
      → Same p (added F (product F a s) b) → Same p (added F (product F c s) d) → Shorter b s → Shorter d s → (a ≡ c) × (b ≡ d)
  division_alone lead p s a b c d S ea eb ha hb hc hd pa pc sb sd =
      let n = neg 1 in
      let x = Values.minus F L a c in
      let y = Values.minus F L b d in
      let x_below : Below q x = Values.added-below F L a (scaled F n c) ha (Values.scaled-below F L n c) in
      let y-below : Below q y = Values.added-below F L b (scaled F n d) hb (Values.scaled-below F L n d) in
      let y-short : Zeros (drop lead y) =
      subst Zeros (sym (drop-added F lead b (scaled F n d) ∙ ap (added F (drop lead b)) (drop-map (F.times n) lead d)))
      (Coefficients.zeros_added F L (drop lead b) (scaled F n (drop lead d)) (shorter-lead lead s b S sb) (Coefficients.zeros_scaled F L n (drop lead d) (shorter-lead lead s d S sd))) in
      let cd-below : Below q (added F (product F c s) d) = Values.added-below F L (product F c s) d (Values.product-below F L c s) hd in
      let z : Zeros (added F (product F x s) y) =
      subst Zeros (sym (Coefficients.minus-divided F L a b c d s)) (Coefficients.zeros_minus F L (added F (product F a s) b) (added F (product F c s) d) cd-below (λ k. sym (pa k) ∙ pc k)) in
      let both : Zeros x × Zeros y = zero-alone lead s S x y x_below y-below y-short z in
      (Values.same_from_minus F L a c ea ha hc both.0, Values.same_from_minus F L b d eb hb hd both.1)

  -- x - (x / a) a = 0
  quotient-takes : (x a : ℕ) → x < q → a < q → a ≢ 0 → x ⊕ neg (x ⊗ inv a) ⊗ a ≡ 0
  quotient-takes x a hx ha na =
      let back : x ⊗ inv a ⊗ a ≡ x = L.times_assoc x (inv a) a ∙ ap (λ w. x ⊗ w) (L.times_comm (inv a) a ∙ L.times_inverse a ha na) ∙ L.times_one x hx in
      ap (λ w. x ⊕ w) (Algebra.minus-left F L (x ⊗ inv a) a ∙ ap neg back) ∙ L.plus_opposite x

  -- before the first turn
  pub down_start : (lead i : ℕ) (p s c : List ℕ) → length p ≤ i + lead → Below q p → c ≡ replicate (length c) 0 → Down F lead p s i p c
  down_start lead i p s c h hp blank =
      let z : Zeros c = subst Zeros (sym blank) (zeros_replicate (length c)) in
      let zp : Zeros (product F (drop i c) s) = Coefficients.zeros_product F L (drop i c) s (All-drop (λ x. x ≡ 0) i c z) in
      record {
        untouched = refl;
        cleared = subst Zeros (sym (drop_all (i + lead) p h)) tt;
        whole = λ k. sym (ap (λ t. get_or t k 0) (Coefficients.added-comm F L (product F (drop i c) s) (drop i p)) ∙ Coefficients.added-zeros F L (drop i p) (product F (drop i c) s) k (All-drop (λ x. x < q) i p hp) zp);
        left_below = hp;
        quotient_below = zeros_below c z;
      }

  -- one turn, at place j
  module _ (lead i j y : ℕ) (p s d c : List ℕ) (S : Leads q lead s) (down : Down F lead p s i d c) (next : i ≡ j + 1) (fits : i + lead ≤ length p) (d-long : length d ≡ length p)
      (c-long : length c ≡ length p) (is : y ≡ get_or d (j + lead) 0 ⊗ inv (get_or s lead 0)) where
    abbrev w : ℕ
    w = lead + 1

    abbrev left : List ℕ
    left = put_mid j w d (reduced F (take w (drop j d)) y (take w s))

    s_long : length (take w s) ≡ w
    s_long = length-take-le w s (omega (arith, S.highest.0))

    left-from : drop j left ≡ added F (drop j d) (scaled F (neg y) (take w s))
    left-from = drop-row F j w y d (take w s) s_long (omega arith)

    d_more : drop j d ≡ get_or d j 0 ∷ drop i d
    d_more = drop_more d j 0 (omega arith) ∙ ap (λ n. get_or d j 0 ∷ drop n d) (sym next)

    p_more : drop j p ≡ get_or p j 0 ∷ drop i p
    p_more = drop_more p j 0 (omega arith) ∙ ap (λ n. get_or p j 0 ∷ drop n p) (sym next)

    same_here : get_or p j 0 ≡ get_or d j 0
    same_here = sym (get_or-take i p j 0 (omega arith)) ∙ ap (λ t. get_or t j 0) (sym down.untouched) ∙ get_or-take i d j 0 (omega arith)

    c_more : drop j (set c j y) ≡ y ∷ drop i c
    c_more = drop-set c j y (omega arith) ∙ ap (λ n. y ∷ drop n c) (sym next)

    turn_untouched : take j left ≡ take j p
    turn_untouched =
        take-put_mid_below j w d (reduced F (take w (drop j d)) y (take w s)) j (omega arith) (omega arith)
        ∙ sym (take-take j i d (omega arith)) ∙ ap (take j) down.untouched ∙ take-take j i p (omega arith)

    turn_cleared : Zeros (drop (j + lead) left)
    turn_cleared =
        let x = get_or d (j + lead) 0 in
        let a = get_or s lead 0 in
        let later : j + lead + 1 ≡ i + lead = omega arith in
        let xq : x < q = All-get_or (λ v. v < q) d (j + lead) 0 (omega arith) down.left_below in
        let aq : a < q = All-get_or (λ v. v < q) s lead 0 S.highest.0 S.below in
        let top : drop lead (take w s) ≡ a ∷ [] = drop-take lead 1 s ∙ ap (take 1) (drop_more s lead 0 S.highest.0) in
        let from : drop (j + lead) left ≡ added F (drop (j + lead) d) (scaled F (neg y) (a ∷ [])) =
        sym (drop-drop lead j left) ∙ ap (drop lead) left-from ∙ drop-added F lead (drop j d) (scaled F (neg y) (take w s))
        ∙ ap₂ (added F) (drop-drop lead j d) (drop-map (F.times (neg y)) lead (take w s) ∙ ap (scaled F (neg y)) top) in
        let d-from : drop (j + lead) d ≡ x ∷ drop (i + lead) d = drop_more d (j + lead) 0 (omega arith) ∙ ap (λ n. x ∷ drop n d) later in
        let gone : x ⊕ neg y ⊗ a ≡ 0 = ap (λ v. x ⊕ neg v ⊗ a) is ∙ quotient-takes x a xq aq S.highest.1 in
        let is-left : drop (j + lead) left ≡ (x ⊕ neg y ⊗ a) ∷ drop (i + lead) d =
        from ∙ ap (λ t. added F t ((neg y ⊗ a) ∷ [])) d-from ∙ ap (λ t. (x ⊕ neg y ⊗ a) ∷ t) (added-nil F (drop (i + lead) d)) in
        subst Zeros (sym is-left) (gone, down.cleared)

    -- (y + x c) s + (d - y s) = d₀ + x (c s + d'), where d = d₀ + x d'
    turn_sum : added F (product F (drop j (set c j y)) s) (drop j left)
        ≡ added F ((0 ⊕ get_or d j 0) ∷ added F (product F (drop i c) s) (drop i d)) (added F (scaled F y s) (scaled F (neg y) (take w s)))
    turn_sum =
        let x = 0 ∷ product F (drop i c) s in
        ap₂ (added F) (ap (λ t. product F t s) c_more) (left-from ∙ ap (λ t. added F t (scaled F (neg y) (take w s))) d_more)
        ∙ ap (λ t. added F t (added F (get_or d j 0 ∷ drop i d) (scaled F (neg y) (take w s)))) (Coefficients.added-comm F L (scaled F y s) x)
        ∙ Coefficients.added-middle F L x (scaled F y s) (get_or d j 0 ∷ drop i d) (scaled F (neg y) (take w s))

    turn_here : (k : ℕ) → get_or (drop j p) k 0 ≡ get_or ((0 ⊕ get_or d j 0) ∷ added F (product F (drop i c) s) (drop i d)) k 0
    turn_here zero =
        ap (λ t. get_or t 0 0) p_more ∙ same_here
        ∙ sym (Algebra.zero-plus F L (get_or d j 0) (All-get_or (λ v. v < q) d j 0 (omega arith) down.left_below))
    turn_here (suc k) = ap (λ t. get_or t (suc k) 0) p_more ∙ down.whole k

    turn_whole : Same (drop j p) (added F (product F (drop j (set c j y)) s) (drop j left))
    turn_whole k =
        let m = added F (product F (drop i c) s) (drop i d) in
        let m-below : Below q m = Values.added-below F L (product F (drop i c) s) (drop i d) (Values.product-below F L (drop i c) s) (All-drop (λ v. v < q) i d down.left_below) in
        turn_here k
        ∙ sym (ap (λ t. get_or t k 0) turn_sum
        ∙ Coefficients.added-zeros F L ((0 ⊕ get_or d j 0) ∷ m) (added F (scaled F y s) (scaled F (neg y) (take w s))) k (L.plus_below 0 (get_or d j 0), m-below)
        (Coefficients.zeros_opposite F L y w s S.highest.2))

    pub down_more : Down F lead p s j (put_mid j (lead + 1) d (reduced F (take (lead + 1) (drop j d)) y (take (lead + 1) s))) (set c j y)
    down_more =
        let part-long : length (take w s) ≡ length (take w (drop j d)) = s_long ∙ sym (length-take-le w (drop j d) (omega (arith, length-drop j d))) in
        record {
          untouched = turn_untouched;
          cleared = turn_cleared;
          whole = turn_whole;
          left_below = all_put_mid q j w d (reduced F (take w (drop j d)) y (take w s)) down.left_below (reduced-below F L (take w (drop j d)) (take w s) y part-long);
          quotient_below = All-set (λ v. v < q) c j y (subst (λ (v : ℕ). v < q) (sym is) (L.times_below (get_or d (j + lead) 0) (inv (get_or s lead 0)))) down.quotient_below;
        }

  -- after the last turn
  pub down_done : (lead : ℕ) (p s d c : List ℕ) → Leads q lead s → length d ≡ length p → length c ≡ length p → Down F lead p s 0 d c → Divided F p s c d
  down_done lead p s d c S d-long c-long down =
      let zero-lead : 0 + lead ≡ lead = omega arith in
      let short : Shorter d s = (lead, S.highest.1, subst (λ k. Zeros (drop k d)) zero-lead down.cleared) in
      record {
        whole = down.whole;
        values = λ x. Coefficients.value_same F L p (added F (product F c s) d) x down.whole ∙ Values.value-added F L (product F c s) d x ∙ ap (λ v. v ⊕ value F d x) (Values.value-product F L c s x);
        shorter = short;
        quotient_long = c-long;
        remainder_long = d-long;
        quotient_below = down.quotient_below;
        remainder_below = down.left_below;
        alone = λ a b ea eb ha hb pa sb.
            division_alone lead p s a b c d S (ea ∙ sym c-long) (eb ∙ sym d-long) ha hb down.quotient_below down.left_below pa down.whole sb short;
      }
