-- Words times multipliers, and words divided by them, place by place.
use Rattle.std.proofs.Common.{◌≡◌, ℕ, zero, suc, ◌+◌, ◌<◌, ◌≤◌, Bool, true, false, cond, eqb, ltb, ◌≢◌, List, [], ◌∷◌, length, get_or, set, replicate, Ok, sym, refl, ap, ◌∙◌, ap₂, arith, length-set, below_more, eq-eqb, ne_eqb, eqb-true}
use lib.ListN.{length-replicate}
use Rattle.std.proofs.lemmas.List.{get_or-set_same, get_or-set_other}
use Rattle.std.proofs.lemmas.Bool.Decides.{nat_tests}
use Rattle.fields.proofs.Total.{TotalLaws}
use Rattle.fields.specs.Arithmetic.{Arithmetic}
use Rattle.fields.specs.Numbers.{Below, differ}
use Rattle.codes.proofs.Lists.{get_or-zeros}
use Rattle.fields.specs.Checks.{unless}
use Rattle.codes.specs.Checks.{unmarked_check}
use Rattle.codes.specs.Words.{wrong}
use Rattle.codes.specs.declared.fault.CodeFault.TheVariants.{Number}
use Rattle.layers.specs.Scaled.{products, quotients, Units}

-- an array of which the numbers before i are written, and one more of them
pub record Written (n : ℕ) (f : ℕ → ℕ) (i : ℕ) (xs : List ℕ) : Type 0 where
  pub long : length xs ≡ n
  pub done : (k : ℕ) → k < i → get_or xs k 0 ≡ f k
  pub left : (k : ℕ) → i ≤ k → ◌≡◌ {A = ℕ} (get_or xs k 0) 0

pub none_written : (n : ℕ) (f : ℕ → ℕ) (xs : List ℕ) → xs ≡ replicate n 0 → Written n f 0 xs
none_written n f xs e = record {
  long = ap length e ∙ length-replicate n 0;
  done = λ k h. absurd (omega arith);
  left = λ k h. ap (λ t. get_or t k 0) e ∙ get_or-zeros n k;
}

pub more_written : (n : ℕ) (f : ℕ → ℕ) (i v : ℕ) (xs : List ℕ) → i < n → v ≡ f i → Written n f i xs → Written n f (i + 1) (set xs i v)
more_written n f i v xs h e w =
    let long = w.long in
    record {
      long = length-set xs i v ∙ long;
      done = below_more _ _
          (λ k b. let ne : k ≢ i = omega arith in get_or-set_other xs i k v 0 ne ∙ w.done k b)
          (get_or-set_same xs i v 0 (omega arith) ∙ e);
      left = λ k b. let ne : k ≢ i = omega arith in get_or-set_other xs i k v 0 ne ∙ w.left k (omega arith);
    }

pub same_written : (n : ℕ) (f : ℕ → ℕ) (i : ℕ) (xs : List ℕ) → f i ≡ 0 → Written n f i xs → Written n f (i + 1) xs
same_written n f i xs e w = record {
  long = w.long;
  done = below_more _ _ w.done (w.left i (omega arith) ∙ sym e);
  left = λ k b. w.left k (omega arith);
}

-- a number divided by its multiplier where the place is unmarked, and 0 where it is marked
abbrev pub quotient_at : Arithmetic → List ℕ → List ℕ → List ℕ → ℕ → ℕ
quotient_at F xs rs ms k = cond (eqb (get_or ms k 0) 0) (F.times (F.inverse (get_or xs k 0)) (get_or rs k 0)) 0

pub at-unmarked : (F : Arithmetic) (xs rs ms : List ℕ) (k x v : ℕ) → get_or ms k 0 ≡ 0 → x ≡ get_or xs k 0 → v ≡ F.times (F.inverse x) (get_or rs k 0) → v ≡ quotient_at F xs rs ms k
at-unmarked F xs rs ms k x v m e q =
    q ∙ ap (λ t. F.times (F.inverse t) (get_or rs k 0)) e ∙ sym (ap (λ t. cond (eqb t 0) (F.times (F.inverse (get_or xs k 0)) (get_or rs k 0)) 0) m)

pub at-marked : (F : Arithmetic) (xs rs ms : List ℕ) (k : ℕ) → get_or ms k 0 ≢ 0 → quotient_at F xs rs ms k ≡ 0
at-marked F xs rs ms k m = ap (λ b. cond b (F.times (F.inverse (get_or xs k 0)) (get_or rs k 0)) 0) (ne_eqb (get_or ms k 0) 0 m)

pub length-products : (F : Arithmetic) (xs ys : List ℕ) → length xs ≡ length ys → length (products F xs ys) ≡ length ys
length-products F [] [] e = refl
length-products F [] (y ∷ ys) e = absurd (omega arith)
length-products F (x ∷ xs) [] e = absurd (omega arith)
length-products F (x ∷ xs) (y ∷ ys) e = ap suc (length-products F xs ys (omega arith))

pub get_or-products : (F : Arithmetic) (xs ys : List ℕ) (i : ℕ) → length xs ≡ length ys → i < length ys → get_or (products F xs ys) i 0 ≡ F.times (get_or xs i 0) (get_or ys i 0)
get_or-products F xs [] i e h = absurd (omega arith)
get_or-products F [] (y ∷ ys) i e h = absurd (omega arith)
get_or-products F (x ∷ xs) (y ∷ ys) zero e h = refl
get_or-products F (x ∷ xs) (y ∷ ys) (suc i) e h = get_or-products F xs ys i (omega arith) (omega arith)

pub length-quotients : (F : Arithmetic) (xs rs ms : List ℕ) → length xs ≡ length ms → length rs ≡ length ms → length (quotients F xs rs ms) ≡ length ms
length-quotients F [] rs [] a b = refl
length-quotients F [] rs (m ∷ ms) a b = absurd (omega arith)
length-quotients F (x ∷ xs) [] ms a b = absurd (omega arith)
length-quotients F (x ∷ xs) (r ∷ rs) [] a b = absurd (omega arith)
length-quotients F (x ∷ xs) (r ∷ rs) (m ∷ ms) a b = ap suc (length-quotients F xs rs ms (omega arith) (omega arith))

pub get_or-quotients : (F : Arithmetic) (xs rs ms : List ℕ) (i : ℕ) → length xs ≡ length ms → length rs ≡ length ms → i < length ms → get_or (quotients F xs rs ms) i 0 ≡ quotient_at F xs rs ms i
get_or-quotients F [] rs ms i a b h = absurd (omega arith)
get_or-quotients F (x ∷ xs) [] ms i a b h = absurd (omega arith)
get_or-quotients F (x ∷ xs) (r ∷ rs) [] i a b h = absurd (omega arith)
get_or-quotients F (x ∷ xs) (r ∷ rs) (m ∷ ms) zero a b h = refl
get_or-quotients F (x ∷ xs) (r ∷ rs) (m ∷ ms) (suc i) a b h = get_or-quotients F xs rs ms i (omega arith) (omega arith) (omega arith)

module _ (F : Arithmetic) (L : TotalLaws F) where
  -- what is multiplied by x may be divided by it, and the other way round
  undo : (x y : ℕ) → 1 ≤ x → x < F.order → y < F.order → F.times (F.inverse x) (F.times x y) ≡ y
  undo x y h l b =
      sym (L.times_assoc (F.inverse x) x y) ∙ ap (λ w. F.times w y) (L.times_comm (F.inverse x) x ∙ L.times_inverse x l (omega arith))
      ∙ L.times_comm 1 y ∙ L.times_one y b

  redo : (x y : ℕ) → 1 ≤ x → x < F.order → y < F.order → F.times x (F.times (F.inverse x) y) ≡ y
  redo x y h l b =
      sym (L.times_assoc x (F.inverse x) y) ∙ ap (λ w. F.times w y) (L.times_inverse x l (omega arith)) ∙ L.times_comm 1 y ∙ L.times_one y b

  pub products-below : (xs ys : List ℕ) → Below F.order (products F xs ys)
  products-below [] ys = tt
  products-below (x ∷ xs) [] = tt
  products-below (x ∷ xs) (y ∷ ys) = (L.times_below x y, products-below xs ys)

  one-differs : (x u v : ℕ) → 1 ≤ x → x < F.order → u < F.order → v < F.order → eqb (F.times x u) (F.times x v) ≡ eqb u v
  one-differs x u v h l a b = go (eqb u v) refl
    where
      go : (t : Bool) → eqb u v ≡ t → eqb (F.times x u) (F.times x v) ≡ t
      go true e = eq-eqb (F.times x u) (F.times x v) (ap (F.times x) (eqb-true u v e))
      go false e = ne_eqb (F.times x u) (F.times x v) (λ s. let same : u ≡ v = sym (undo x u h l a) ∙ ap (F.times (F.inverse x)) s ∙ undo x v h l b in grind (arith, nat_tests))

  -- multiplied words differ where the words do
  pub differ-products : (xs us vs : List ℕ) → Units F.order xs → Below F.order us → Below F.order vs → length xs ≡ length us → differ (products F xs us) (products F xs vs) ≡ differ us vs
  differ-products [] [] vs h a b e = refl
  differ-products [] (u ∷ us) vs h a b e = absurd (omega arith)
  differ-products (x ∷ xs) [] vs h a b e = refl
  differ-products (x ∷ xs) (u ∷ us) [] h a b e = refl
  differ-products (x ∷ xs) (u ∷ us) (v ∷ vs) h a b e =
      ap₂ (λ t n. cond t 0 1 + n) (one-differs x u v h.0.0 h.0.1 a.0 b.0) (differ-products xs us vs h.1 a.1 b.1 (omega arith))

  one-wrong : (x r w : ℕ) → 1 ≤ x → x < F.order → r < F.order → w < F.order → eqb r (F.times x w) ≡ eqb (F.times (F.inverse x) r) w
  one-wrong x r w h l a b = go (eqb (F.times (F.inverse x) r) w) refl
    where
      go : (t : Bool) → eqb (F.times (F.inverse x) r) w ≡ t → eqb r (F.times x w) ≡ t
      go true e = eq-eqb r (F.times x w) (sym (redo x r h l a) ∙ ap (F.times x) (eqb-true (F.times (F.inverse x) r) w e))
      go false e = ne_eqb r (F.times x w) (λ s. let same : F.times (F.inverse x) r ≡ w = ap (F.times (F.inverse x)) s ∙ undo x w h l b in grind (arith, nat_tests))

  -- a received number is wrong exactly where its quotient is
  pub wrong-quotients : (i : ℕ) (xs rs ms ws : List ℕ) → Units F.order xs → unmarked_check F.order i rs ms ≡ Ok tt → Below F.order ws
      → length xs ≡ length ms → length rs ≡ length ms → wrong rs ms (products F xs ws) ≡ wrong (quotients F xs rs ms) ms ws
  wrong-quotients i [] [] ms ws h n b p q = refl
  wrong-quotients i [] (r ∷ rs) ms ws h n b p q = absurd (omega arith)
  wrong-quotients i (x ∷ xs) [] ms ws h n b p q = refl
  wrong-quotients i (x ∷ xs) (r ∷ rs) [] ws h n b p q = refl
  wrong-quotients i (x ∷ xs) (r ∷ rs) (m ∷ ms) [] h n b p q = refl
  wrong-quotients i (x ∷ xs) (r ∷ rs) (m ∷ ms) (w ∷ ws) h n b p q =
      let later : unmarked_check F.order (i + 1) rs ms ≡ Ok tt = grind (arith, nat_tests) in
      go (eqb m 0) refl (wrong-quotients (i + 1) xs rs ms ws h.1 later b.1 (omega arith) (omega arith))
    where
      go : (t : Bool) → eqb m 0 ≡ t → wrong rs ms (products F xs ws) ≡ wrong (quotients F xs rs ms) ms ws
          → cond t (cond (eqb r (F.times x w)) 0 1) 0 + wrong rs ms (products F xs ws) ≡ cond t (cond (eqb (cond t (F.times (F.inverse x) r) 0) w) 0 1) 0 + wrong (quotients F xs rs ms) ms ws
      go true e rest = let l : r < F.order = grind (arith, nat_tests) in ap₂ (λ t k. cond t 0 1 + k) (one-wrong x r w h.0.0 h.0.1 l b.0) rest
      go false e rest = ap (λ k. 0 + k) rest

  pub quotients-pass : (i : ℕ) (xs rs ms : List ℕ) → unmarked_check F.order i (quotients F xs rs ms) ms ≡ Ok tt
  quotients-pass i [] rs ms = refl
  quotients-pass i (x ∷ xs) [] ms = refl
  quotients-pass i (x ∷ xs) (r ∷ rs) [] = refl
  quotients-pass i (x ∷ xs) (r ∷ rs) (m ∷ ms) =
      let rest = quotients-pass (i + 1) xs rs ms in
      let b : F.times (F.inverse x) r < F.order = L.times_below (F.inverse x) r in
      go (eqb m 0) (F.times (F.inverse x) r) b rest
    where
      go : (t : Bool) (y : ℕ) → y < F.order → unmarked_check F.order (i + 1) (quotients F xs rs ms) ms ≡ Ok tt
          → cond t (unless (ltb (cond t y 0) F.order) (Number i) (unmarked_check F.order (i + 1) (quotients F xs rs ms) ms)) (unmarked_check F.order (i + 1) (quotients F xs rs ms) ms) ≡ Ok tt
      go true y b rest = grind (arith, nat_tests)
      go false y b rest = rest
