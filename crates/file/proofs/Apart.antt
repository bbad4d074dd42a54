-- What was written is read back, and different sheets give different files.
use Rattle.std.proofs.Common.{◌≡◌, ℕ, zero, suc, ◌+◌, ◌*◌, ◌<◌, Bool, true, false, cond, ◌&&◌, IsTrue, eqb, ◌⊎◌, List, [], ◌∷◌, ◌++◌, map, length, get_or, take, drop, Some, None, Ok, Err, Option, sym, refl, ap, ◌∙◌, subst, inl, inr, append_assoc, suc-mul, arith, length-append, length-drop, length-take, take-add}
use Rattle.std.specs.List.{range_with_len, AllByRecursion}
use Rattle.std.proofs.lemmas.List.FromFn.{get_or-map-range_with_len}
use Rattle.std.proofs.ByRecursion.{All-take, All-drop}
use Rattle.std.proofs.lemmas.List.{ext_get_or, take_all}
use Rattle.std.proofs.lemmas.Bool.{cases_eq}
use Rattle.std.proofs.lemmas.Bool.Decides.{nat_tests}
use Rattle.fields.specs.Arithmetic.{Arithmetic}
use Rattle.fields.specs.Binary.{bytes}
use Rattle.fields.specs.Laws.{Laws}
use Rattle.fields.specs.Numbers.{Below, differ}
use Rattle.fields.specs.Primes.{listed, residues}
use Rattle.fields.specs.Bytes.{bytes-sizes, bytes-sums, bytes-products, bytes-inverses}
use Rattle.fields.specs.Primality.{listed-prime, listed-sizes}
use Rattle.fields.specs.Remainders.{residues-sums, residues-products, residues-inverses}
use Rattle.codes.specs.Lists as codes
use Rattle.codes.specs.Meaning.{Meaning, Message, Sound}
use Rattle.evaluation.specs.Evaluation.{evaluation}
use Rattle.evaluation.specs.Evaluated.{evaluates}
use Rattle.carrier.specs.Checks.{fit_check}
use Rattle.carrier.specs.Sheets.{row}
use Rattle.carrier.proofs.Records.{fits}
use Rattle.file.specs.declared.fault.FileFault.{FileFault}
use Rattle.file.specs.declared.fault.FileFault.TheVariants.{TooShort, Field, BackCount, Collector, Output}
use Rattle.file.specs.declared.heading.Heading.{Heading}
use Rattle.file.specs.Form.{Strip, strip, Form, strips_bytes, trailer}
use Rattle.file.specs.Meant.{code_of, code_over, field_of}
use Rattle.file.specs.Reads.{Holds, Declined}
use Rattle.file.specs.Theorems.{Fitting, SheetFor, ReadsBack, ToldApart, RefusedRightly}
use Rattle.file.specs.Writes.{file_bytes, strips_of_sheet, strips_by, strip_by, entry_by}
use Rattle.file.proofs.Forms.{alone, tail_same, trailer-same}
use Rattle.file.proofs.Putting.{deep-by, within}

clash : {X : Type 0} → (e : ◌≡◌ {A = ℕ} 0 1) → X
clash e = absurd (omega arith)

same_code : (h h' : Heading) (M M' : Meaning) → h ≡ h' → code_of h ≡ Some M → code_of h' ≡ Some M' → M ≡ M'
same_code h h' M M' e a b =
    let z : Some M ≡ Some M' = sym a ∙ ap code_of e ∙ b in
    cc

-- a form of the file, and what a refusal says of it
none-refused : (file : List ℕ) (h : Heading) (M : Meaning) (ss : List Strip) → Holds M h ss file → (f : FileFault) → Declined file f → ⊥
none-refused file h M ss held TooShort d =
    let B : List ℕ = strips_bytes ss in
    let l = ap length held.form.bytes ∙ length-append held.form.ignored (B ++ trailer h (length B)) in
    let m = length-append B (trailer h (length B)) in
    omega arith
none-refused file h M ss held Field d =
    let f = held.form in
    let B : List ℕ = strips_bytes ss in
    let t = tail_same (trailer d.heading d.back) (trailer h (length B)) d.ends.front (f.ignored ++ B) refl (sym d.ends.bytes ∙ f.bytes ∙ sym (append_assoc f.ignored B (trailer h (length B)))) in
    let s = trailer-same d.heading h d.back (length B) t.1 in
    let z : Some M ≡ None = sym held.code ∙ ap code_of (sym s.0) ∙ d.unknown in
    clash (cc)
none-refused file h M ss held BackCount d = d.none h ss held.form
none-refused file h M ss held (Collector f) d =
    let e = alone h d.heading ss d.strips file held.form d.form in
    let same : M ≡ d.meaning = same_code h d.heading M d.meaning (sym e.0) held.code d.code in
    let here : fit_check M h.depth ≡ fit_check d.meaning d.heading.depth = ap (λ (m : Meaning). fit_check m h.depth) same ∙ ap (λ (x : Heading). fit_check d.meaning x.depth) (sym e.0) in
    let z : Ok tt ≡ Err f = sym held.fit ∙ here ∙ d.unfit in
    clash (cc)
none-refused file h M ss held Output d = d

pub rightly : RefusedRightly
rightly file f d h M ss held = none-refused file h M ss held f d

form : (h : Heading) (ss : List Strip) (before : List ℕ) → AllByRecursion (λ s. length s.numbers ≡ h.depth) ss → Form h ss (before ++ file_bytes h ss)
form h ss before deep = record { ignored = before; deep = deep; bytes = refl }

pub back : ReadsBack
back h h' M ss ss' before fit deep =
    let f = form h ss before deep in (
      (λ t. alone h h' ss ss' (before ++ file_bytes h ss) f t.holds.form),
      (λ fault d. none-refused (before ++ file_bytes h ss) h M ss record { code = fit.code; fit = fit.fit; form = f } fault d),
    )

-- the field that a heading names keeps the laws
lawful : (kind known bytes-named : Bool) (p : ℕ) (F : Arithmetic) → known ≡ listed p → cond kind (cond known (Some (residues p)) None) (cond bytes-named (Some bytes) None) ≡ Some F → Laws F
lawful true true b p F k e =
    let known : IsTrue (listed p) = sym k in
    let prime = listed-prime p known in
    let same : residues p ≡ F = cc in
    subst Laws same record { sizes = listed-sizes prime known; sums = residues-sums prime; products = residues-products prime; inverses = residues-inverses prime }
lawful true false b p F k e = clash (cc)
lawful false known true p F k e =
    let same : bytes ≡ F = cc in
    subst Laws same record { sizes = bytes-sizes; sums = bytes-sums; products = bytes-products; inverses = bytes-inverses }
lawful false known false p F k e = clash (cc)

sound-over : (h : Heading) (o : Option Arithmetic) (M : Meaning) → ((F : Arithmetic) → o ≡ Some F → Laws F) → code_over h o ≡ Some M → M.fitness ≡ Ok tt → Sound M
sound-over h None M law e fit = clash (cc)
sound-over h (Some F) M law e fit =
    let E : Meaning = evaluation F h.n h.k (codes.counting 0 h.n) in
    let same : E ≡ M = cc in
    let P : Meaning → Type 0 = λ m. m.fitness ≡ Ok tt → Sound m in
    subst P same (evaluates F (law F refl) h.n h.k (codes.counting 0 h.n)).sound fit

sound-of : (h : Heading) (M : Meaning) → Fitting h M → Sound M
sound-of h M f =
    sound-over h (field_of h) M (λ F e. lawful (eqb h.kind 1) (listed h.modulus) (eqb h.kind 2 && eqb h.modulus 285) h.modulus F refl e) f.code
    (fits M.fitness h.depth f.fit).code

same_list : (xs ys : List ℕ) → (xs ≡ ys) ⊎ (xs ≡ ys → ⊥)
same_list [] [] = inl refl
same_list [] (y ∷ ys) = inr (λ e. let z : ◌≡◌ {A = ℕ} 0 1 = cc in omega arith)
same_list (x ∷ xs) [] = inr (λ e. let z : ◌≡◌ {A = ℕ} 0 1 = cc in omega arith)
same_list (x ∷ xs) (y ∷ ys) =
    elim (cases_eq x y) [
      | inl a ↦ elim (same_list xs ys) [ inl b ↦ inl (cc) | inr b ↦ inr (λ e. b (cc)) ]
      | inr a ↦ inr (λ e. a (cc))
    ]

stable : (xs ys : List ℕ) → ((xs ≡ ys → ⊥) → ⊥) → xs ≡ ys
stable xs ys h = elim (same_list xs ys) [ inl e ↦ e | inr n ↦ absurd (h n) ]

differ_self : (xs : List ℕ) → differ xs xs ≡ 0
differ_self [] = refl
differ_self (x ∷ xs) = let t : eqb x x ≡ true = grind (arith, nat_tests) in rw t (omega (arith, differ_self xs))

same_rows : (k : ℕ) (s t : List ℕ) (i : ℕ) → ((j : ℕ) → j < i → row k j s ≡ row k j t) → take (i * k) s ≡ take (i * k) t
same_rows k s t zero h = let e : zero * k ≡ zero = omega arith in rw e refl
same_rows k s t (suc i) h =
    let r = same_rows k s t i (λ j l. h j (omega arith)) in
    let here = h i (omega arith) in
    let e = suc-mul i k in
    rw e (take-add (i * k) k s ∙ ap (λ (x : List ℕ). x ++ row k i s) r ∙ ap (λ (x : List ℕ). take (i * k) t ++ x) here ∙ sym (take-add (i * k) k t))

entry-same : (X Y : ℕ → ℕ → ℕ) (D n : ℕ) → strips_by X D n ≡ strips_by Y D n → (i j : ℕ) → i < D → j < n → X i j ≡ Y i j
entry-same X Y D n e i j hi hj =
    let zj : 0 + j ≡ j = omega arith in
    let zi : 0 + i ≡ i = omega arith in
    let d : Strip = strip 0 [] in
    let s : strip_by X D j ≡ strip_by Y D j = sym (get_or-map-range_with_len (strip_by X D) 0 n j j d hj zj) ∙ ap (λ (x : List Strip). get_or x j d) e ∙ get_or-map-range_with_len (strip_by Y D) 0 n j j d hj zj in
    let ns : map (λ r. X r j) (range_with_len 0 D) ≡ map (λ r. Y r j) (range_with_len 0 D) = ap (λ (x : Strip). x.numbers) s in
    sym (get_or-map-range_with_len (λ r. X r j) 0 D i i 0 hi zi) ∙ ap (λ (x : List ℕ). get_or x i 0) ns ∙ get_or-map-range_with_len (λ r. Y r j) 0 D i i 0 hi zi

message : (M : Meaning) (D i : ℕ) (s : List ℕ) → length s ≡ D * M.dimension → Below M.order s → i < D → Message M (row M.dimension i s)
message M D i s l b h =
    let k = M.dimension in
    let w = within i D k h in
    record { long = simp (length-take, length-drop) (omega arith); below = All-take (λ x. x < M.order) k (drop (i * k) s) (All-drop (λ x. x < M.order) (i * k) s b) }

same_sheet : (M : Meaning) (D : ℕ) (s t : List ℕ) → Sound M → length s ≡ D * M.dimension → Below M.order s → length t ≡ D * M.dimension → Below M.order t → strips_of_sheet M D s ≡ strips_of_sheet M D t → s ≡ t
same_sheet M D s t law ls bs lt bt e =
    let k = M.dimension in
    let word = M.word in
    let rows : (i : ℕ) → i < D → row k i s ≡ row k i t = λ i h.
    let m = message M D i s ls bs h in
    let m' = message M D i t lt bt h in
    let a = law.word_long (row k i s) m in
    let b = law.word_long (row k i t) m' in
    let words : word (row k i s) ≡ word (row k i t) = ext_get_or 0 (word (row k i s)) (word (row k i t)) (a ∙ sym b) (λ j hj. entry-same (entry_by M s) (entry_by M t) D M.long e i j h (omega arith)) in
    stable (row k i s) (row k i t) (λ no.
    let far = law.apart (row k i s) (row k i t) m m' no in
    let near = ap (λ (x : List ℕ). differ (word (row k i s)) x) (sym words) ∙ differ_self (word (row k i s)) in
    omega (arith, law.distance_low)) in
    sym (take_all (D * k) s (omega arith)) ∙ same_rows k s t D rows ∙ take_all (D * k) t (omega arith)

pub apart : ToldApart
apart h h' M M' s s' a b e =
    let ss : List Strip = strips_of_sheet M h.depth s in
    let ss' : List Strip = strips_of_sheet M' h'.depth s' in
    let f : Form h ss (file_bytes h ss) = record { ignored = []; deep = deep-by (entry_by M s) h.depth M.long; bytes = refl } in
    let f' : Form h' ss' (file_bytes h ss) = record { ignored = []; deep = deep-by (entry_by M' s') h'.depth M'.long; bytes = e } in
    let one = alone h h' ss ss' (file_bytes h ss) f f' in
    let codes_same : M' ≡ M = same_code h' h M' M one.0 b.fitting.code a.fitting.code in
    let P : Heading → Meaning → Type 0 = λ x m. SheetFor x m s' → ss ≡ strips_of_sheet m x.depth s' → s ≡ s' in
    let at : P h M = λ b' e'. same_sheet M h.depth s s' (sound-of h M a.fitting) a.long a.below b'.long b'.below e' in
    (sym one.0, subst (λ (x : Heading). P x M') (sym one.0) (subst (λ (m : Meaning). P h m) (sym codes_same) at) b (sym one.1))
