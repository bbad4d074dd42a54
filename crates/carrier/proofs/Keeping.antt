-- The book holds exactly the strips that are kept.
use Rattle.std.proofs.Common.{◌≡◌, ℕ, zero, suc, ◌<◌, Bool, true, false, cond, ◌&&◌, eqb, ltb, ◌≢◌, ◌⊎◌, List, [], ◌∷◌, ◌++◌, length, get_or, set, replicate, Some, None, Option, sym, refl, ap, ◌∙◌, subst, inl, inr, arith, length-set, get_or-set_other, get_or-set_same}
use native.Mathlib.Decide.{dec_lt}
use lib.ListN.{length-replicate}
use Rattle.std.proofs.lemmas.Bool.Decides.{nat_tests}
use Rattle.std.specs.List.{AllByRecursion}
use Rattle.fields.specs.Numbers.{Below}
use Rattle.carrier.specs.Book.{Book, Call, deliver, strike, read, after, booked, book, vacant, filled, all_below}
use Rattle.carrier.specs.Kept.{Kept, BookKeeps}

test : (b : Bool) → (b ≡ true) ⊎ (b ≡ false)
test true = inl refl
test false = inr refl

same_number : (x y : ℕ) → (x ≡ y) ⊎ (x ≡ y → ⊥)
same_number x y = elim (test (eqb x y)) [ inl t ↦ inl (grind (arith, nat_tests)) | inr t ↦ inr (λ e. grind (arith, nat_tests)) ]

cond_length : (t : Bool) (b : Book) (p : ℕ) (o : Option (List ℕ)) → length (cond t (set b p o) b) ≡ length b
cond_length true b p o = length-set b p o
cond_length false b p o = refl

after-length : (n D q : ℕ) (b : Book) (c : Call) → length (after n D q b c) ≡ length b
after-length n D q b (deliver p s) = cond_length (ltb p n && vacant (get_or b p None) && eqb (length s) D && all_below q s) b p (Some s)
after-length n D q b (strike p) = cond_length (ltb p n && filled (get_or b p None)) b p None
after-length n D q b (read x y) = refl

pub booked-length : (n D q : ℕ) (b : Book) (cs : List Call) → length (booked n D q b cs) ≡ length b
booked-length n D q b [] = refl
booked-length n D q b (c ∷ cs) = booked-length n D q (after n D q b c) cs ∙ after-length n D q b c

is_vacant : (o : Option (List ℕ)) → vacant o ≡ true → o ≡ None
is_vacant None e = refl
is_vacant (Some s) e = let z : ◌≡◌ {A = ℕ} 0 1 = cc in absurd (omega arith)

all_low : (q : ℕ) (s : List ℕ) → all_below q s ≡ true → Below q s
all_low q [] e = tt
all_low q (x ∷ xs) e =
    let a : ltb x q ≡ true = grind (arith, nat_tests) in
    let b : all_below q xs ≡ true = grind (arith, nat_tests) in
    (grind (arith, nat_tests), all_low q xs b)

low-all : (q : ℕ) (s : List ℕ) → Below q s → all_below q s ≡ true
low-all q [] h = refl
low-all q (x ∷ xs) h =
    let a = h.0 in
    let t : ltb x q ≡ true = grind (arith, nat_tests) in
    rw t (low-all q xs h.1)

-- a delivery's four conditions, as one test and apart
record Fits (n D q : ℕ) (o : Option (List ℕ)) (place : ℕ) (strip : List ℕ) : Type 0 where
  inside : place < n
  empty : o ≡ None
  long : length strip ≡ D
  below : Below q strip

apart : (n D q place l : ℕ) (v a : Bool) → (ltb place n && v && eqb l D && a) ≡ true → (place < n) × (v ≡ true) × (l ≡ D) × (a ≡ true)
apart n D q place l v a e = (grind (arith, nat_tests), grind (arith, nat_tests), grind (arith, nat_tests), grind (arith, nat_tests))

fits : (n D q : ℕ) (o : Option (List ℕ)) (place : ℕ) (strip : List ℕ) → (ltb place n && vacant o && eqb (length strip) D && all_below q strip) ≡ true → Fits n D q o place strip
fits n D q o place strip e =
    let p = apart n D q place (length strip) (vacant o) (all_below q strip) e in
    record { inside = p.0; empty = is_vacant o p.1; long = p.2; below = all_low q strip p.3 }

together : (n D place l : ℕ) (v a : Bool) → place < n → v ≡ true → l ≡ D → a ≡ true → (ltb place n && v && eqb l D && a) ≡ true
together n D place l v a h e k f = grind (arith, nat_tests)

-- what a call does to one place
same_at : (n D q : ℕ) (b : Book) (p place : ℕ) (s : List ℕ) → (place ≡ p → ⊥) → get_or (after n D q b (deliver p s)) place None ≡ get_or b place None
same_at n D q b p place s ne = go (ltb p n && vacant (get_or b p None) && eqb (length s) D && all_below q s)
  where
    go : (t : Bool) → get_or (cond t (set b p (Some s)) b) place None ≡ get_or b place None
    go true = get_or-set_other b p place (Some s) None ne
    go false = refl

same_struck : (n D q : ℕ) (b : Book) (p place : ℕ) → (place ≡ p → ⊥) → get_or (after n D q b (strike p)) place None ≡ get_or b place None
same_struck n D q b p place ne = go (ltb p n && filled (get_or b p None))
  where
    go : (t : Bool) → get_or (cond t (set b p None) b) place None ≡ get_or b place None
    go true = get_or-set_other b p place None None ne
    go false = refl

-- a struck place is empty
outside : (n : ℕ) (b : Book) (place : ℕ) → length b ≡ n → (place < n → ⊥) → get_or b place None ≡ None
outside n [] place l h = refl
outside n (o ∷ b) zero l h = absurd (h (omega arith))
outside zero (o ∷ b) (suc place) l h = absurd (omega arith)
outside (suc n) (o ∷ b) (suc place) l h = outside n b place (omega arith) (λ x. h (omega arith))

emptied : (n D q : ℕ) (b : Book) (place : ℕ) → length b ≡ n → get_or (after n D q b (strike place)) place None ≡ None
emptied n D q b place l = elim (dec_lt place n) [ yes h ↦ go (get_or b place None) refl h | no h ↦ outside n (after n D q b (strike place)) place (after-length n D q b (strike place) ∙ l) h ]
  where
    go : (o : Option (List ℕ)) → get_or b place None ≡ o → place < n → get_or (after n D q b (strike place)) place None ≡ None
    go None e h = let t : (ltb place n && filled (get_or b place None)) ≡ false = rw e (grind (arith, nat_tests)) in rw t e
    go (Some s) e h =
        let x : ltb place n ≡ true = grind (arith, nat_tests) in
        let t : (ltb place n && filled (get_or b place None)) ≡ true = rw (e, x) refl in
        rw t (get_or-set_same b place None None (omega arith))

-- from the book to what is kept: the strip was there, and is not struck; or it is delivered on the way
record Came (n D q : ℕ) (b : Book) (cs : List Call) (place : ℕ) (strip : List ℕ) : Type 0 where
  earlier : List Call
  later : List Call
  delivered : cs ≡ earlier ++ (deliver place strip ∷ later)
  inside : place < n
  empty : get_or (booked n D q b earlier) place None ≡ None
  long : length strip ≡ D
  below : Below q strip
  unstruck : AllByRecursion (λ call. call ≢ strike place) later

abbrev Stayed : Book → List Call → ℕ → List ℕ → Type 0
Stayed b cs place strip = (get_or b place None ≡ Some strip) × AllByRecursion (λ call. call ≢ strike place) cs

more : (n D q : ℕ) (b : Book) (c : Call) (cs : List Call) (place : ℕ) (strip : List ℕ) → Came n D q (after n D q b c) cs place strip → Came n D q b (c ∷ cs) place strip
more n D q b c cs place strip h = record {
  earlier = c ∷ h.earlier;
  later = h.later;
  delivered = ap (λ (x : List Call). c ∷ x) h.delivered;
  inside = h.inside;
  empty = h.empty;
  long = h.long;
  below = h.below;
  unstruck = h.unstruck;
}

not_strike : (place p : ℕ) (s : List ℕ) → deliver p s ≢ strike place
not_strike place p s e = let z : ◌≡◌ {A = ℕ} 0 1 = cc in omega arith

not_read : (place : ℕ) (x y : List ℕ) → read x y ≢ strike place
not_read place x y e = let z : ◌≡◌ {A = ℕ} 0 1 = cc in omega arith

-- the strip stayed after one call: it was there before, or the call brought it
step : (n D q : ℕ) (b : Book) (c : Call) (cs : List Call) (place : ℕ) (strip : List ℕ) → length b ≡ n → Stayed (after n D q b c) cs place strip → Stayed b (c ∷ cs) place strip ⊎ Came n D q b (c ∷ cs) place strip
step n D q b (read x y) cs place strip l h = inl (h.0, (not_read place x y, h.1))
step n D q b (strike p) cs place strip l h =
    elim (same_number place p) [
      | inl e ↦ (let x = emptied n D q b p l in let h0 : get_or (after n D q b (strike p)) p None ≡ Some strip = subst (λ (t : ℕ). get_or (after n D q b (strike p)) t None ≡ Some strip) e h.0 in let z : ◌≡◌ {A = ℕ} 0 1 = cc in absurd (omega arith))
      | inr ne ↦ inl (sym (same_struck n D q b p place ne) ∙ h.0, ((λ e. ne (cc)), h.1))
    ]
step n D q b (deliver p s) cs place strip l h =
    elim (same_number place p) [
      | inr ne ↦ inl (sym (same_at n D q b p place s ne) ∙ h.0, (not_strike place p s, h.1))
      | inl e ↦ here (test (ltb p n && vacant (get_or b p None) && eqb (length s) D && all_below q s)) e
    ]
  where
    here : ((ltb p n && vacant (get_or b p None) && eqb (length s) D && all_below q s) ≡ true) ⊎ ((ltb p n && vacant (get_or b p None) && eqb (length s) D && all_below q s) ≡ false) → place ≡ p → Stayed b (deliver p s ∷ cs) place strip ⊎ Came n D q b (deliver p s ∷ cs) place strip
    here (inr t) e = inl ((rw t at h.0), (not_strike place p s, h.1))
    here (inl t) e =
        let f = fits n D q (get_or b p None) p s t in
        let in' = f.inside in
        let h0 : get_or (set b p (Some s)) place None ≡ Some strip = rw t at h.0 in
        let h1 : get_or (set b p (Some s)) p None ≡ Some strip = subst (λ (x : ℕ). get_or (set b p (Some s)) x None ≡ Some strip) e h0 in
        let same = get_or-set_same b p (Some s) None (omega arith) in
        let is : s ≡ strip = cc in
        inr (record {
          earlier = [];
          later = cs;
          delivered = cc;
          inside = omega arith;
          empty = subst (λ (x : ℕ). get_or b x None ≡ None) (sym e) f.empty;
          long = subst (λ (x : List ℕ). length x ≡ D) is f.long;
          below = subst (Below q) is f.below;
          unstruck = h.1;
        })

came : (n D q : ℕ) (b : Book) (cs : List Call) (place : ℕ) (strip : List ℕ) → length b ≡ n → get_or (booked n D q b cs) place None ≡ Some strip → Stayed b cs place strip ⊎ Came n D q b cs place strip
came n D q b [] place strip l e = inl (e, tt)
came n D q b (c ∷ cs) place strip l e =
    elim (came n D q (after n D q b c) cs place strip (after-length n D q b c ∙ l) e) [
      | inl h ↦ step n D q b c cs place strip l h
      | inr h ↦ inr (more n D q b c cs place strip h)
    ]

-- a strip stays until it is struck
stays_one : (n D q : ℕ) (b : Book) (c : Call) (place : ℕ) (strip : List ℕ) → c ≢ strike place → get_or b place None ≡ Some strip → get_or (after n D q b c) place None ≡ Some strip
stays_one n D q b (read x y) place strip ne e = e
stays_one n D q b (strike p) place strip ne e = same_struck n D q b p place (λ x. ne (cc)) ∙ e
stays_one n D q b (deliver p s) place strip ne e =
    elim (same_number place p) [
      | inr x ↦ same_at n D q b p place s x ∙ e
      | inl x ↦ (let e' : get_or b p None ≡ Some strip = subst (λ (t : ℕ). get_or b t None ≡ Some strip) x e in
          let v : vacant (get_or b p None) ≡ false = ap vacant e' in
          let t : (ltb p n && vacant (get_or b p None) && eqb (length s) D && all_below q s) ≡ false = rw v (go (ltb p n)) in
          rw t e)
    ]
  where
    go : (x : Bool) → (x && false && eqb (length s) D && all_below q s) ≡ false
    go true = refl
    go false = refl

stays : (n D q : ℕ) (b : Book) (cs : List Call) (place : ℕ) (strip : List ℕ) → AllByRecursion (λ call. call ≢ strike place) cs → get_or b place None ≡ Some strip → get_or (booked n D q b cs) place None ≡ Some strip
stays n D q b [] place strip h e = e
stays n D q b (c ∷ cs) place strip h e = stays n D q (after n D q b c) cs place strip h.1 (stays_one n D q b c place strip h.0 e)

booked-append : (n D q : ℕ) (b : Book) (xs ys : List Call) → booked n D q b (xs ++ ys) ≡ booked n D q (booked n D q b xs) ys
booked-append n D q b [] ys = refl
booked-append n D q b (x ∷ xs) ys = booked-append n D q (after n D q b x) xs ys

put : (n D q : ℕ) (b : Book) (place : ℕ) (strip : List ℕ) → length b ≡ n → place < n → get_or b place None ≡ None → length strip ≡ D → Below q strip → get_or (after n D q b (deliver place strip)) place None ≡ Some strip
put n D q b place strip l in' e long low =
    let v : vacant (get_or b place None) ≡ true = ap vacant e in
    let t = together n D place (length strip) (vacant (get_or b place None)) (all_below q strip) in' v long (low-all q strip low) in
    rw t (get_or-set_same b place (Some strip) None (omega arith))

nothing : (n place : ℕ) (strip : List ℕ) → get_or (replicate n None) place None ≡ Some strip → ⊥
nothing zero place strip e = let z : ◌≡◌ {A = ℕ} 0 1 = cc in omega arith
nothing (suc n) zero strip e = let z : ◌≡◌ {A = ℕ} 0 1 = cc in omega arith
nothing (suc n) (suc place) strip e = nothing n place strip e

pub book-keeps : (n D q : ℕ) (calls : List Call) → BookKeeps n D q calls
book-keeps n D q calls place strip = (to, from)
  where
    to : get_or (book n D q calls) place None ≡ Some strip → Kept n D q calls place strip
    to e = elim (came n D q (replicate n None) calls place strip (length-replicate n None) e) [
      | inl h ↦ absurd (nothing n place strip h.0)
      | inr h ↦ record { earlier = h.earlier; later = h.later; delivered = h.delivered; inside = h.inside; empty = h.empty; long = h.long; below = h.below; unstruck = h.unstruck }
    ]

    from : Kept n D q calls place strip → get_or (book n D q calls) place None ≡ Some strip
    from h =
        let b = book n D q h.earlier in
        let long = booked-length n D q (replicate n None) h.earlier ∙ length-replicate n None in
        ap (λ (x : List Call). get_or (book n D q x) place None) h.delivered
        ∙ ap (λ (x : Book). get_or x place None) (booked-append n D q (replicate n None) h.earlier (deliver place strip ∷ h.later))
        ∙ stays n D q (after n D q b (deliver place strip)) h.later place strip h.unstruck (put n D q b place strip long h.inside h.empty h.long h.below)
