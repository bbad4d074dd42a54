-- The records follow the book, and the book holds numbers below q alone.
use Rattle.std.proofs.Common.{◌≡◌, ℕ, zero, suc, ◌+◌, ◌<◌, Bool, true, false, cond, ◌&&◌, eqb, ltb, ◌⊎◌, List, [], ◌∷◌, length, get_or, set, replicate, Some, None, Ok, Err, sym, refl, inl, inr, arith}
use Rattle.std.proofs.ByRecursion.{All-get_or}
use Rattle.std.proofs.lemmas.Bool.Decides.{nat_tests}
use Rattle.fields.specs.Numbers.{Below}
use Rattle.fields.specs.Checks.{Check, unless, and_then}
use Rattle.codes.specs.Checks.{number_check, unmarked_check}
use Rattle.codes.specs.declared.fault.CodeFault.{CodeFault}
use Rattle.carrier.specs.declared.fault.CollectorFault.{CollectorFault}
use Rattle.carrier.specs.declared.fault.CollectorFault.TheVariants.{Place, StripLength, Taken, Vacant}
use Rattle.carrier.specs.Book.{Book, deliver, strike, after, vacant, filled, all_below}
use Rattle.carrier.specs.Checks.{from_code, entered}
use Rattle.carrier.specs.Records.{BookBelow}
use Rattle.carrier.specs.Sheets.{received, marks}
use Rattle.carrier.proofs.Records.{delivery, striking, accepted}

below-numbers : (q i : ℕ) (s : List ℕ) → number_check q i s ≡ Ok tt → all_below q s ≡ true
below-numbers q i [] e = refl
below-numbers q i (x ∷ xs) e =
    let t : ltb x q ≡ true = grind (arith, nat_tests) in
    let e' : number_check q (i + 1) xs ≡ Ok tt = rw t at e in
    rw t (below-numbers q (i + 1) xs e')

test : (b : Bool) → (b ≡ true) ⊎ (b ≡ false)
test true = inl refl
test false = inr refl

not_below : (q i : ℕ) (s : List ℕ) (f : CodeFault) → number_check q i s ≡ Err f → all_below q s ≡ false
not_below q i [] f e = let z : ◌≡◌ {A = ℕ} 0 1 = cc in absurd (omega arith)
not_below q i (x ∷ xs) f e =
    elim (test (ltb x q)) [
      | inl t ↦ (let e' : number_check q (i + 1) xs ≡ Err f = rw t at e in rw t (not_below q (i + 1) xs f e'))
      | inr t ↦ rw t refl
    ]

pub all_numbers : (q i : ℕ) (s : List ℕ) → number_check q i s ≡ Ok tt → Below q s
all_numbers q i [] e = tt
all_numbers q i (x ∷ xs) e =
    let t : ltb x q ≡ true = grind (arith, nat_tests) in
    let e' : number_check q (i + 1) xs ≡ Ok tt = rw t at e in
    (grind (arith, nat_tests), all_numbers q (i + 1) xs e')

ways : (p v l : Bool) (u : Check CodeFault) (a : Bool) (new old : Book) → (u ≡ Ok tt → a ≡ true) → ((f : CodeFault) → u ≡ Err f → a ≡ false) →
    entered (unless p Place (unless l StripLength (and_then (from_code u) (unless v Taken (Ok tt))))) new old ≡ cond (p && v && l && a) new old
ways false v l u a new old h k = refl
ways true false false u a new old h k = refl
ways true false true (Ok u) a new old h k = refl
ways true false true (Err f) a new old h k = refl
ways true true false u a new old h k = refl
ways true true true (Ok u) a new old h k = rw (h refl) refl
ways true true true (Err f) a new old h k = rw (k f refl) refl

pub after-deliver : (f : Check CollectorFault) (n D q : ℕ) (b : Book) (place : ℕ) (strip : List ℕ) → f ≡ Ok tt → entered (and_then f (delivery n D q b place strip)) (set b place (Some strip)) b ≡ after n D q b (deliver place strip)
after-deliver f n D q b place strip e =
    rw e (ways (ltb place n) (vacant (get_or b place None)) (eqb (length strip) D) (number_check q 0 strip) (all_below q strip) (set b place (Some strip)) b (below-numbers q 0 strip) (not_below q 0 strip))

pub none_below : (q D n : ℕ) → BookBelow q D (replicate n None)
none_below q D zero = tt
none_below q D (suc n) = none_below q D n

pub set-none : (q D : ℕ) (b : Book) (place : ℕ) → BookBelow q D b → BookBelow q D (set b place None)
set-none q D [] place h = tt
set-none q D (None ∷ b) zero h = h
set-none q D (Some s ∷ b) zero h = h.2
set-none q D (None ∷ b) (suc i) h = set-none q D b i h
set-none q D (Some s ∷ b) (suc i) h = (h.0, h.1, set-none q D b i h.2)

pub set-some : (q D : ℕ) (b : Book) (place : ℕ) (s : List ℕ) → length s ≡ D → Below q s → BookBelow q D b → BookBelow q D (set b place (Some s))
set-some q D [] place t l a h = tt
set-some q D (None ∷ b) zero t l a h = (l, a, h)
set-some q D (Some s ∷ b) zero t l a h = (l, a, h.2)
set-some q D (None ∷ b) (suc i) t l a h = set-some q D b i t l a h
set-some q D (Some s ∷ b) (suc i) t l a h = (h.0, h.1, set-some q D b i t l a h.2)

pub unmarked_ok : (q D i j : ℕ) (b : Book) → BookBelow q D b → i < D → unmarked_check q j (received i b) (marks b) ≡ Ok tt
unmarked_ok q D i j [] h l = refl
unmarked_ok q D i j (None ∷ b) h l = unmarked_ok q D i (j + 1) b h l
unmarked_ok q D i j (Some s ∷ b) h l =
    let w : i < length s = omega (arith, h.0) in
    let x : get_or s i 0 < q = All-get_or (λ x. x < q) s i 0 w h.1 in
    let t : ltb (get_or s i 0) q ≡ true = grind (arith, nat_tests) in
    rw t (unmarked_ok q D i (j + 1) b h.2 l)

pub deliver-below : (f : Check CollectorFault) (n D q : ℕ) (b : Book) (place : ℕ) (strip : List ℕ) (r : Check CollectorFault) → r ≡ and_then f (delivery n D q b place strip) → BookBelow q D b → BookBelow q D (entered r (set b place (Some strip)) b)
deliver-below f n D q b place strip (Ok u) e h = let p = accepted f n D q b place strip (sym e) in set-some q D b place strip p.long (all_numbers q 0 strip p.below) h
deliver-below f n D q b place strip (Err g) e h = h

pub strike-below : (q D : ℕ) (b : Book) (place : ℕ) (r : Check CollectorFault) → BookBelow q D b → BookBelow q D (entered r (set b place None) b)
strike-below q D b place (Ok u) h = set-none q D b place h
strike-below q D b place (Err g) h = h

strike-ways : (p v : Bool) (new old : Book) → entered (unless p Place (unless v Vacant (Ok tt))) new old ≡ cond (p && v) new old
strike-ways false v new old = refl
strike-ways true false new old = refl
strike-ways true true new old = refl

pub after-strike : (f : Check CollectorFault) (n D q : ℕ) (b : Book) (place : ℕ) → f ≡ Ok tt → entered (and_then f (striking n b place)) (set b place None) b ≡ after n D q b (strike place)
after-strike f n D q b place e = rw e (strike-ways (ltb place n) (filled (get_or b place None)) (set b place None) b)
