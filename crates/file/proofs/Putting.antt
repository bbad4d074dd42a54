-- The bytes of strips, as they are written.
use Rattle.std.proofs.Common.{◌≡◌, ℕ, zero, suc, ◌+◌, ◌-◌, ◌*◌, ◌/◌, ◌%◌, ◌<◌, ◌≤◌, true, eqb, ltb, leb, List, [], ◌∷◌, ◌++◌, map, length, get_or, take, drop, set, Ok, Err, sym, refl, ap, ◌∙◌, append_assoc, mul-le-mul_right, suc-mul, arith, length-set, length-take, below_more}
use lib.Arith.{digits_lt}
use borrow.Rule.Slice.PartMut.{put_mid, post_of}
use Rattle.std.specs.List.{range_with_len, flat_map, AllByRecursion}
use Rattle.std.proofs.lemmas.List.{take_more_set, flat_map_more, get_or_append_left, get_or-append_right, get_or-take, length-take-le}
use Rattle.std.proofs.lemmas.List.FromFn.{map-range_with_len_more, length-map-range_with_len}
use Rattle.file.proofs.Forms.{length_two}
use Rattle.std.proofs.lemmas.Slice.{take-put_mid}
use Rattle.std.proofs.ByRecursion.{All-take, All-drop, All-map}
use Rattle.std.proofs.lemmas.Bool.Decides.{nat_tests}
use Rattle.fields.specs.Checks.{Check, unless, and_then}
use Rattle.codes.specs.Checks.{when_fit, number_check, written}
use Rattle.codes.specs.Meaning.{Meaning, issue_check}
use Rattle.codes.specs.declared.fault.CodeFault.{CodeFault}
use Rattle.codes.specs.declared.fault.CodeFault.TheVariants.{MessageLength, WordLength}
use Rattle.codes.specs.declared.fault.FitnessFault.{FitnessFault}
use Rattle.carrier.specs.Checks.{fit_check, from_code}
use Rattle.carrier.specs.declared.fault.CollectorFault.{CollectorFault}
use Rattle.carrier.specs.declared.fault.CollectorFault.TheVariants.{SheetLength}
use Rattle.carrier.proofs.Books.{all_numbers}
use Rattle.file.specs.Form.{Strip, two, strip_bytes, strips_bytes}
use Rattle.file.specs.Writes.{strip_by, strips_by, write_check, from_collector}
use Rattle.file.specs.declared.fault.FileFault.TheVariants.{Collector, Output}

pub within : (r D n : ℕ) → r < D → r * n + n ≤ D * n
within r D n h = let m : suc r * n ≤ D * n = mul-le-mul_right n h in omega (arith, suc-mul r n)

pub index_within : (r D n j : ℕ) → r < D → j < n → r * n + j < D * n
index_within r D n j h k = digits_lt h k

pub joined_counting : {X : Type 0} (f : X → List ℕ) (g : ℕ → X) (n : ℕ) → flat_map f (map g (range_with_len 0 (n + 1))) ≡ flat_map f (map g (range_with_len 0 n)) ++ f (g n)
joined_counting f g n =
    let z : 0 + n ≡ n = omega arith in
    ap (flat_map f) (map-range_with_len_more g 0 n n z) ∙ sym (flat_map_more f [] (map g (range_with_len 0 n)) (g n))

pub strip-more : (out : List ℕ) (place row : ℕ) (f : ℕ → ℕ) → 1 + 2 * (row + 1) ≤ length out → take (1 + 2 * row) out ≡ place ∷ flat_map two (map f (range_with_len 0 row)) → take (1 + 2 * (row + 1)) (set (set out (1 + 2 * row) (f row / 256)) (2 + 2 * row) (f row % 256)) ≡ place ∷ flat_map two (map f (range_with_len 0 (row + 1)))
strip-more out place row f room e =
    let m : ℕ = 1 + 2 * row in
    let hi : ℕ = f row / 256 in
    let lo : ℕ = f row % 256 in
    let a : take (m + 1) (set out m hi) ≡ take m out ++ hi ∷ [] = take_more_set out m hi (omega arith) in
    let l : m + 1 < length (set out m hi) = simp length-set (omega arith) in
    let b : take (m + 1 + 1) (set (set out m hi) (m + 1) lo) ≡ take (m + 1) (set out m hi) ++ lo ∷ [] = take_more_set (set out m hi) (m + 1) lo l in
    let n : 1 + 2 * (row + 1) ≡ m + 1 + 1 = omega arith in
    let n2 : 2 + 2 * row ≡ m + 1 = omega arith in
    ap (λ k. take k (set (set out m hi) (2 + 2 * row) lo)) n
    ∙ ap (λ k. take (m + 1 + 1) (set (set out m hi) k lo)) n2
    ∙ b
    ∙ ap (λ x. x ++ lo ∷ []) (a ∙ ap (λ x. x ++ hi ∷ []) e)
    ∙ append_assoc (place ∷ flat_map two (map f (range_with_len 0 row))) (hi ∷ []) (lo ∷ [])
    ∙ ap (λ x. place ∷ x) (sym (joined_counting two f row))

pub strips-more : (out new : List ℕ) (place w k : ℕ) (g : ℕ → Strip) → place * w ≤ length out → length new ≡ w → take (place * w) out ≡ strips_bytes (map g (range_with_len 0 place)) → new ≡ strip_bytes (g place) → take ((place + 1) * w) (put_mid (place * w) k out new) ≡ strips_bytes (map g (range_with_len 0 (place + 1)))
strips-more out new place w k g room l e New-is =
    let n : (place + 1) * w ≡ place * w + length new = ap (λ x. x * w) (let z : place + 1 ≡ suc place = omega arith in z) ∙ suc-mul place w ∙ ap (λ x. place * w + x) (sym l) in
    take-put_mid (place * w) k out new ((place + 1) * w) n room
    ∙ ap (λ x. x ++ new) e
    ∙ ap (λ x. strips_bytes (map g (range_with_len 0 place)) ++ x) New-is
    ∙ sym (joined_counting strip_bytes g place)

pub map_same : {X : Type 0} (f g : ℕ → X) (a n : ℕ) → ((i : ℕ) → i < a + n → f i ≡ g i) → map f (range_with_len a n) ≡ map g (range_with_len a n)
map_same f g a zero h = refl
map_same f g a (suc n) h =
    let here = h a (omega arith) in
    let there = map_same f g (a + 1) n (λ i k. h i (omega arith)) in
    cc

pub strips-same : (x y : ℕ → ℕ → ℕ) (D n : ℕ) → ((i j : ℕ) → i < D → j < n → x i j ≡ y i j) → strips_by x D n ≡ strips_by y D n
strips-same x y D n h =
    map_same (strip_by x D) (strip_by y D) 0 n (λ j k. let s = map_same (λ i. x i j) (λ i. y i j) 0 D (λ i l. h i j (omega arith) (omega arith)) in ap (λ (ns : List ℕ). record { place = j; numbers = ns }) s)

pub part_below : (a k : ℕ) (xs ys : List ℕ) (i : ℕ) → a ≤ length xs → i < a → get_or (put_mid a k xs ys) i 0 ≡ get_or xs i 0
part_below a k xs ys i room h =
    let l : i < length (take a xs) = simp length-take (omega arith) in
    get_or_append_left (take a xs) _ 0 i l ∙ get_or-take a xs i 0 h

pub part_at : (a k : ℕ) (xs ys : List ℕ) (j : ℕ) → a ≤ length xs → j < length ys → get_or (put_mid a k xs ys) (a + j) 0 ≡ get_or ys j 0
part_at a k xs ys j room h =
    let n : (a + j) - a ≡ j = omega arith in
    let l : length (take a xs) ≡ a = length-take-le a xs room in
    get_or-append_right (take a xs) _ a (a + j) 0 l (omega arith) ∙ ap (λ m. get_or (ys ++ post_of a k xs) m 0) n ∙ get_or_append_left ys (post_of a k xs) 0 j h

pub numbers-all : (q i : ℕ) (s : List ℕ) → AllByRecursion (λ x. x < q) s → number_check q i s ≡ Ok tt
numbers-all q i [] a = refl
numbers-all q i (x ∷ xs) a =
    let h : x < q = a.0 in
    let t : ltb x q ≡ true = grind (arith, nat_tests) in
    rw t (numbers-all q (i + 1) xs a.1)

pub part_numbers : (q a k : ℕ) (s : List ℕ) → number_check q 0 s ≡ Ok tt → number_check q 0 (take k (drop a s)) ≡ Ok tt
part_numbers q a k s e = numbers-all q 0 (take k (drop a s)) (All-take (λ x. x < q) k (drop a s) (All-drop (λ x. x < q) a s (all_numbers q 0 s e)))

-- what the checks of writing say where they pass
pub record Passed (M : Meaning) (D : ℕ) (sheet : List ℕ) (room : ℕ) : Type 0 where
  pub fits : fit_check M D ≡ Ok tt
  pub long : length sheet ≡ D * M.dimension
  pub below : number_check M.order 0 sheet ≡ Ok tt
  pub ample : M.long * (1 + 2 * D) + 8 ≤ room

passed_numbers : (D k size room : ℕ) (sheet : List ℕ) (c : Check CodeFault) → and_then (from_collector (from_code c)) (unless (leb size room) Output (Ok tt)) ≡ Ok tt → (c ≡ Ok tt) × (size ≤ room)
passed_numbers D k size room sheet (Ok u) e = (refl, grind (arith, nat_tests))
passed_numbers D k size room sheet (Err f) e = let z : ◌≡◌ {A = ℕ} 0 1 = cc in absurd (omega arith)

passed_fit : (f : Check CollectorFault) (D k size room : ℕ) (sheet : List ℕ) (c : Check CodeFault) →
    and_then (from_collector f) (unless (eqb (length sheet) (D * k)) (Collector SheetLength) (and_then (from_collector (from_code c)) (unless (leb size room) Output (Ok tt)))) ≡ Ok tt →
    (f ≡ Ok tt) × (length sheet ≡ D * k) × (c ≡ Ok tt) × (size ≤ room)
passed_fit (Ok u) D k size room sheet c e =
    let l : length sheet ≡ D * k = grind (arith, nat_tests) in
    let t : eqb (length sheet) (D * k) ≡ true = grind (arith, nat_tests) in
    let p = passed_numbers D k size room sheet c (rw t at e) in
    (refl, l, p.0, p.1)
passed_fit (Err f) D k size room sheet c e = let z : ◌≡◌ {A = ℕ} 0 1 = cc in absurd (omega arith)

pub passed : (M : Meaning) (D : ℕ) (sheet : List ℕ) (room : ℕ) → write_check M D sheet room ≡ Ok tt → Passed M D sheet room
passed M D sheet room e =
    let p = passed_fit (fit_check M D) D M.dimension (M.long * (1 + 2 * D) + 8) room sheet (number_check M.order 0 sheet) e in
    record { fits = p.0; long = p.1; below = p.2; ample = p.3 }

pub length-strip_by : (x : ℕ → ℕ → ℕ) (D j : ℕ) → length (strip_bytes (strip_by x D j)) ≡ 1 + 2 * D
length-strip_by x D j = omega (arith, length_two (map (λ i. x i j) (range_with_len 0 D)), length-map-range_with_len (λ i. x i j) 0 D)

deep : (x : ℕ → ℕ → ℕ) (D : ℕ) (js : List ℕ) → AllByRecursion (λ j. length (strip_by x D j).numbers ≡ D) js
deep x D [] = tt
deep x D (j ∷ js) = (length-map-range_with_len (λ i. x i j) 0 D, deep x D js)

pub deep-by : (x : ℕ → ℕ → ℕ) (D n : ℕ) → AllByRecursion (λ s. length s.numbers ≡ D) (strips_by x D n)
deep-by x D n = All-map (λ s. length s.numbers ≡ D) (strip_by x D) (range_with_len 0 n) (deep x D (range_with_len 0 n))

pub rows_more : (words new : List ℕ) (row n m k : ℕ) (X : ℕ → ℕ → ℕ) → m ≡ n → row * n + n ≤ length words → length new ≡ n → ((r j : ℕ) → r < row → j < n → get_or words (r * n + j) 0 ≡ X r j) → ((j : ℕ) → j < n → get_or new j 0 ≡ X row j) → (r j : ℕ) → r < row + 1 → j < n → get_or (put_mid (row * m) k words new) (r * n + j) 0 ≡ X r j
rows_more words new row n m k X e room l before here r j h lt =
    let start : row * n ≤ length words = omega arith in
    let shift : get_or (put_mid (row * m) k words new) (r * n + j) 0 ≡ get_or (put_mid (row * n) k words new) (r * n + j) 0 = ap (λ x. get_or (put_mid (row * x) k words new) (r * n + j) 0) e in
    shift ∙ below_more (λ r. get_or (put_mid (row * n) k words new) (r * n + j) 0 ≡ X r j) row
    (λ r' h'. let i : r' * n + j < row * n = index_within r' row n j h' lt in part_below (row * n) k words new (r' * n + j) start i ∙ before r' j h' lt)
    (let i : j < length new = omega arith in part_at (row * n) k words new j start i ∙ here j lt)
    r h

issue_ok : (f : Check FitnessFault) (k n room q : ℕ) (m : List ℕ) → f ≡ Ok tt → length m ≡ k → room ≡ n → number_check q 0 m ≡ Ok tt →
    when_fit f (unless (eqb (length m) k) MessageLength (unless (eqb room n) WordLength (number_check q 0 m))) ≡ Ok tt
issue_ok f k n room q m e a b c = rw e (rw c (grind (arith, nat_tests)))

-- what a code issues where its checks pass
pub issued : (M : Meaning) (m old new : List ℕ) (r : Check CodeFault) → M.fitness ≡ Ok tt → length m ≡ M.dimension → length old ≡ M.long → number_check M.order 0 m ≡ Ok tt → r ≡ issue_check M m (length old) → new ≡ written r (M.word m) old → new ≡ M.word m
issued M m old new r e a b c ans buf =
    buf ∙ ap (λ (x : Check CodeFault). written x (M.word m) old) (ans ∙ issue_ok M.fitness M.dimension M.long (length old) M.order m e a b c)
