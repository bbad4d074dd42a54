-- At most one sheet is within reach, and what a read tells of it.
use Rattle.std.proofs.Common.{◌≡◌, ℕ, zero, suc, ◌*◌, ◌<◌, ◌≤◌, Bool, true, false, eqb, ◌⊎◌, List, [], ◌∷◌, ◌++◌, length, take, replicate, None, Ok, Err, Result, sym, refl, ap, ◌∙◌, subst, inl, inr, suc-mul, arith, take_all, take-add}
use Rattle.std.proofs.lemmas.List.{length-map}
use Rattle.std.proofs.lemmas.Bool.Decides.{nat_tests}
use Rattle.fields.specs.Checks.{Check}
use Rattle.codes.specs.Meaning.{Meaning, Sound}
use Rattle.codes.specs.declared.fault.CodeFault.{CodeFault}
use Rattle.codes.proofs.Reach.{one-reached}
use Rattle.carrier.specs.declared.fault.CollectorFault.{CollectorFault}
use Rattle.carrier.specs.declared.fault.CollectorFault.TheVariants.{Code}
use Rattle.carrier.specs.Book.{Book, Call, deliver, strike, read, after, booked, book}
use Rattle.carrier.specs.Checks.{fit_check}
use Rattle.carrier.specs.Records.{BookBelow, records}
use Rattle.carrier.specs.Replies as replies
use Rattle.carrier.specs.Replies.{Reply, delivered, struck, unanswered}
use Rattle.carrier.specs.Sheets.{received, marks, row, Within, Found, Done}
use Rattle.carrier.specs.Steps.{Told, Checked, Answered, Run}
use Rattle.carrier.proofs.Books.{unmarked_ok, after-deliver, after-strike, deliver-below, strike-below, none_below}
use Rattle.carrier.proofs.Records.{delivery, striking}

test : (b : Bool) → (b ≡ true) ⊎ (b ≡ false)
test true = inl refl
test false = inr refl

same_number : (x y : ℕ) → (x ≡ y) ⊎ (x ≡ y → ⊥)
same_number x y = elim (test (eqb x y)) [ inl t ↦ inl (grind (arith, nat_tests)) | inr t ↦ inr (λ e. grind (arith, nat_tests)) ]

same_list : (xs ys : List ℕ) → (xs ≡ ys) ⊎ (xs ≡ ys → ⊥)
same_list [] [] = inl refl
same_list [] (y ∷ ys) = inr (λ e. let z : ◌≡◌ {A = ℕ} 0 1 = cc in omega arith)
same_list (x ∷ xs) [] = inr (λ e. let z : ◌≡◌ {A = ℕ} 0 1 = cc in omega arith)
same_list (x ∷ xs) (y ∷ ys) =
    elim (same_number x y) [
      | inl a ↦ elim (same_list xs ys) [ inl b ↦ inl (cc) | inr b ↦ inr (λ e. b (cc)) ]
      | inr a ↦ inr (λ e. a (cc))
    ]

stable : (xs ys : List ℕ) → ((xs ≡ ys → ⊥) → ⊥) → xs ≡ ys
stable xs ys h = elim (same_list xs ys) [ inl e ↦ e | inr n ↦ absurd (h n) ]

same_rows : (k : ℕ) (s t : List ℕ) (i : ℕ) → ((j : ℕ) → j < i → row k j s ≡ row k j t) → take (i * k) s ≡ take (i * k) t
same_rows k s t zero h = let e : zero * k ≡ zero = omega arith in rw e refl
same_rows k s t (suc i) h =
    let r = same_rows k s t i (λ j l. h j (omega arith)) in
    let here = h i (omega arith) in
    let e = suc-mul i k in
    rw e (take-add (i * k) k s ∙ ap (λ (x : List ℕ). x ++ row k i s) r ∙ ap (λ (x : List ℕ). take (i * k) t ++ x) here ∙ sym (take-add (i * k) k t))

pub one-sheet : (m : Meaning) (D : ℕ) (b : Book) → Sound m → length b ≡ m.long → (s t : List ℕ) → Within m D b s → Within m D b t → s ≡ t
one-sheet m D b law long s t x y =
    let k = m.dimension in
    let rows : (j : ℕ) → j < D → row k j s ≡ row k j t = λ j h. stable (row k j s) (row k j t)
    (one-reached (received j b) (marks b) (row k j s) (row k j t) law (length-map b _ ∙ long) (length-map b _ ∙ long) (x.near j h) (y.near j h)) in
    let e = same_rows k s t D rows in
    let a = x.long in
    let c = y.long in
    sym (take_all (D * k) s (omega arith)) ∙ e ∙ take_all (D * k) t (omega arith)

pub told : (m : Meaning) (D : ℕ) (b : Book) (old new : List ℕ) (r : Result ℕ CollectorFault) → Sound m → length b ≡ m.long → BookBelow m.order D b →
    Found m D b old new r → Told m D b old new r
told m D b old new (Ok e) law long low h =
    (h.0, λ other x. one-sheet m D b law long other new x h.0, h.1)
told m D b old new (Err f) law long low h =
    let s = h.0 in
    elim s.lost [
      | inl u ↦ (let v = unmarked_ok m.order D s.at 0 b low s.inside in let z : ◌≡◌ {A = ℕ} 0 1 = cc in absurd (omega arith))
      | inr u ↦ (s.at, s.inside, s.fault ∙ ap (λ (w : CodeFault). Code w s.at) u.0, u.1, s.before, h.1)
    ]

pub checked : (c : Check CollectorFault) (m : Meaning) (need D : ℕ) (b : Book) (old new scr scr' : List ℕ) (r : Result ℕ CollectorFault) → (c ≡ Ok tt → Sound m × (length b ≡ m.long)) → BookBelow m.order D b →
    Done c m need D b old new scr scr' r → Checked c m need D b old new scr scr' r
checked (Ok u) m need D b old new scr scr' r law low h = let l = law refl in (told m D b old new r l.0 l.1 low h.0, h.1)
checked (Err f) m need D b old new scr scr' r law low h = h

pub unfit-any : (m : Meaning) (need D : ℕ) (b b' : Book) (c : Call) (a : Reply) (f : CollectorFault) → fit_check m D ≡ Err f → Answered m need D b c a → Answered m need D b' c a
unfit-any m need D b b' (deliver place strip) (delivered p s r) f e h = rw e (rw e at h)
unfit-any m need D b b' (deliver place strip) (struck p r) f e h = h
unfit-any m need D b b' (deliver place strip) (replies.sheet r s t) f e h = h
unfit-any m need D b b' (deliver place strip) unanswered f e h = h
unfit-any m need D b b' (strike place) (delivered p s r) f e h = h
unfit-any m need D b b' (strike place) (struck p r) f e h = rw e (rw e at h)
unfit-any m need D b b' (strike place) (replies.sheet r s t) f e h = h
unfit-any m need D b b' (strike place) unanswered f e h = h
unfit-any m need D b b' (read x y) (delivered p s r) f e h = h
unfit-any m need D b b' (read x y) (struck p r) f e h = h
unfit-any m need D b b' (read x y) (replies.sheet r s t) f e h = rw e (rw e at h)
unfit-any m need D b b' (read x y) unanswered f e h = h

pub run_more : (m : Meaning) (need D : ℕ) (b : Book) (cs : List Call) (as' : List Reply) (c : Call) (a : Reply) → Run m need D b cs as' → Answered m need D (booked m.long D m.order b cs) c a → Run m need D b (cs ++ (c ∷ [])) (as' ++ (a ∷ []))
run_more m need D b [] [] c a h x = (x, tt)
run_more m need D b [] (y ∷ ys) c a h x = absurd h
run_more m need D b (z ∷ zs) [] c a h x = absurd h
run_more m need D b (z ∷ zs) (y ∷ ys) c a h x = (h.0, run_more m need D (after m.long D m.order b z) zs ys c a h.1 x)

pub booked-more : (n D q : ℕ) (b : Book) (cs : List Call) (c : Call) → booked n D q b (cs ++ (c ∷ [])) ≡ after n D q (booked n D q b cs) c
booked-more n D q b [] c = refl
booked-more n D q b (z ∷ zs) c = booked-more n D q (after n D q b z) zs c

pub fresh_below : (q D n k : ℕ) → BookBelow q D (records n D (replicate k None))
fresh_below q D zero k = tt
fresh_below q D (suc n) zero = tt
fresh_below q D (suc n) (suc k) = fresh_below q D n k

pub fresh_book : (D n k : ℕ) → n ≤ k → records n D (replicate k None) ≡ replicate n None
fresh_book D zero k h = refl
fresh_book D (suc n) zero h = absurd (omega arith)
fresh_book D (suc n) (suc k) h = ap (λ (b : Book). None ∷ b) (fresh_book D n k (omega arith))

-- an answer by the records is one by the book
by_book : (f : Check CollectorFault) (m : Meaning) (need D : ℕ) (b b' : Book) (c : Call) (a : Reply) → fit_check m D ≡ f → (fit_check m D ≡ Ok tt → b ≡ b') → Answered m need D b c a → Answered m need D b' c a
by_book (Ok u) m need D b b' c a e same h = subst (λ (x : Book). Answered m need D x c a) (same e) h
by_book (Err f) m need D b b' c a e same h = unfit-any m need D b b' c a f e h

pub run_step : (m : Meaning) (need D : ℕ) (b₀ b b' : Book) (cs : List Call) (answers : List Reply) (c : Call) (a : Reply) →
    (fit_check m D ≡ Ok tt → b ≡ booked m.long D m.order b₀ cs) → Run m need D b₀ cs answers → Answered m need D b c a → (fit_check m D ≡ Ok tt → b' ≡ after m.long D m.order b c) →
    (fit_check m D ≡ Ok tt → b' ≡ booked m.long D m.order b₀ (cs ++ (c ∷ []))) × Run m need D b₀ (cs ++ (c ∷ [])) (answers ++ (a ∷ []))
run_step m need D b₀ b b' cs answers c a same run h next = (
  λ ok. next ok ∙ ap (λ (x : Book). after m.long D m.order x c) (same ok) ∙ sym (booked-more m.long D m.order b₀ cs c),
  run_more m need D b₀ cs answers c a run (by_book (fit_check m D) m need D b (booked m.long D m.order b₀ cs) c a refl same h),
)

after-below : (n D q : ℕ) (b : Book) (c : Call) → BookBelow q D b → BookBelow q D (after n D q b c)
after-below n D q b (deliver place strip) h = subst (BookBelow q D) (after-deliver (Ok tt) n D q b place strip refl) (deliver-below (Ok tt) n D q b place strip (delivery n D q b place strip) refl h)
after-below n D q b (strike place) h = subst (BookBelow q D) (after-strike (Ok tt) n D q b place refl) (strike-below q D b place (striking n b place) h)
after-below n D q b (read x y) h = h

pub booked-below : (n D q : ℕ) (b : Book) (cs : List Call) → BookBelow q D b → BookBelow q D (booked n D q b cs)
booked-below n D q b [] h = h
booked-below n D q b (c ∷ cs) h = booked-below n D q (after n D q b c) cs (after-below n D q b c h)

-- a read of records that agree with the book of some calls
pub told-run : (chk : Check CollectorFault) (m : Meaning) (need D : ℕ) (b : Book) (cs : List Call) (old new scr scr' : List ℕ) (r : Result ℕ CollectorFault) → (chk ≡ Ok tt → Sound m × (length b ≡ m.long)) →
    Done chk m need D b old new scr scr' r → chk ≡ Ok tt → b ≡ book m.long D m.order cs → Told m D (book m.long D m.order cs) old new r
told-run (Ok u) m need D b cs old new scr scr' r law h ok e =
    let l = law refl in
    subst (λ (x : Book). Told m D x old new r) e
    (told m D b old new r l.0 l.1 (subst (BookBelow m.order D) (sym e) (booked-below m.long D m.order (replicate m.long None) cs (none_below m.order D m.long))) h.0)
told-run (Err f) m need D b cs old new scr scr' r law h ok e = let z : ◌≡◌ {A = ℕ} 0 1 = cc in absurd (omega arith)
