-- A file's bytes and its heading and strips determine each other.
use Rattle.std.proofs.Common.{◌≡◌, ℕ, zero, suc, ◌+◌, ◌-◌, ◌*◌, ◌/◌, ◌%◌, ◌<◌, ◌≤◌, List, [], ◌∷◌, ◌++◌, length, get_or, take, drop, sym, refl, ap, ◌∙◌, append_assoc, suc-mul, div-add-mod', le-div_iff_mul-le, zero-mul, mul-div_cancel, arith, lit<, length-append, length-drop, take-append-drop, length-take}
use native.Mathlib.Nat.{mul-mod_left}
use Rattle.std.proofs.lemmas.List.{get_or-take, take_all, append-nil, take_at, drop_at, nil_from_length, drop-drop, get_or-drop, take-take, drop-take, drop_more, drop_all}
use Rattle.std.specs.List.{flat_map, AllByRecursion}
use Rattle.file.specs.declared.heading.Heading.{Heading}
use Rattle.file.specs.Form.{Strip, Form, two, strip, strips_bytes, trailer, numbers_in, strip_in, strips_in}
use Rattle.file.specs.Reads.{held}

-- one more of w
pub once_more : (c w : ℕ) → suc c * w ≡ w + c * w
once_more c w = simp suc-mul (omega arith)

pub high-of : (h l : ℕ) → l < 256 → (256 * h + l) / 256 ≡ h
high-of h l s = omega arith

pub low_of : (h l : ℕ) → l < 256 → (256 * h + l) % 256 ≡ l
low_of h l s = omega arith

pub two-of : (x : ℕ) → 256 * (x / 256) + x % 256 ≡ x
two-of x = omega arith

pub length_two : (xs : List ℕ) → length (flat_map two xs) ≡ 2 * length xs
length_two [] = refl
length_two (x ∷ xs) = omega (arith, length_two xs)

-- the numbers in the bytes of numbers
pub numbers_of : (xs rest : List ℕ) → numbers_in (length xs) (flat_map two xs ++ rest) ≡ xs
numbers_of [] rest = refl
numbers_of (x ∷ xs) rest = let e = two-of x in let f = numbers_of xs rest in cc

pub double : (D : ℕ) → 2 * suc D ≡ suc (suc (2 * D))
double D = omega arith

-- the bytes of the numbers in bytes
pub bytes_of : (D : ℕ) (bs : List ℕ) → ((i : ℕ) → get_or bs i 0 < 256) → 2 * D ≤ length bs → flat_map two (numbers_in D bs) ≡ take (2 * D) bs
bytes_of zero bs small h = refl
bytes_of (suc D) [] small h = absurd (let z : ⊥ = omega arith in z)
bytes_of (suc D) (a ∷ []) small h = absurd (let z : ⊥ = omega arith in z)
bytes_of (suc D) (a ∷ b ∷ bs) small h =
    let room : 2 * D ≤ length bs = omega arith in
    let e = high-of a b (small 1) in
    let f = low_of a b (small 1) in
    let g = bytes_of D bs (λ i. small (suc (suc i))) room in
    rw (double D) (cc)

pub length-numbers_in : (D : ℕ) (bs : List ℕ) → length (numbers_in D bs) ≡ D
length-numbers_in zero bs = refl
length-numbers_in (suc D) bs = ap suc (length-numbers_in D (drop 2 bs))

pub length-strips_in : (D c : ℕ) (bs : List ℕ) → length (strips_in D c bs) ≡ c
length-strips_in D zero bs = refl
length-strips_in D (suc c) bs = ap suc (length-strips_in D c (drop (1 + 2 * D) bs))

pub deep_in : (D c : ℕ) (bs : List ℕ) → AllByRecursion (λ s. length s.numbers ≡ D) (strips_in D c bs)
deep_in D zero bs = tt
deep_in D (suc c) bs = (length-numbers_in D (drop 1 bs), deep_in D c (drop (1 + 2 * D) bs))

pub strip-at : (D c : ℕ) (bs : List ℕ) (i : ℕ) (d : Strip) → i < c → get_or (strips_in D c bs) i d ≡ strip_in D (drop (i * (1 + 2 * D)) bs)
strip-at D zero bs i d h = absurd (let z : ⊥ = omega arith in z)
strip-at D (suc c) bs zero d h = ap (λ k. strip_in D (drop k bs)) (sym (zero-mul (1 + 2 * D)))
strip-at D (suc c) bs (suc i) d h =
    let less : i < c = omega arith in
    let n : (1 + 2 * D) + i * (1 + 2 * D) ≡ suc i * (1 + 2 * D) = sym (once_more i (1 + 2 * D)) in
    strip-at D c (drop (1 + 2 * D) bs) i d less ∙ ap (strip_in D) (drop-drop (i * (1 + 2 * D)) (1 + 2 * D) bs ∙ ap (λ k. drop k bs) n)

-- the bytes of strips
pub length-strips : (D : ℕ) (ss : List Strip) → AllByRecursion (λ s. length s.numbers ≡ D) ss → length (strips_bytes ss) ≡ length ss * (1 + 2 * D)
length-strips D [] deep = sym (zero-mul (1 + 2 * D))
length-strips D (s ∷ ss) deep =
    let a = length_two s.numbers in
    let b = length-strips D ss deep.1 in
    let m = once_more (length ss) (1 + 2 * D) in
    let g = length-append (flat_map two s.numbers) (strips_bytes ss) in
    omega (arith, deep.0)

pub strips_of : (D : ℕ) (ss : List Strip) (rest : List ℕ) → AllByRecursion (λ s. length s.numbers ≡ D) ss → strips_in D (length ss) (strips_bytes ss ++ rest) ≡ ss
strips_of D [] rest deep = refl
strips_of D (s ∷ ss) rest deep =
    let J : List ℕ = flat_map two s.numbers in
    let all : (J ++ strips_bytes ss) ++ rest ≡ J ++ (strips_bytes ss ++ rest) = append_assoc J (strips_bytes ss) rest in
    let nums : numbers_in D ((J ++ strips_bytes ss) ++ rest) ≡ s.numbers = ap (numbers_in D) all ∙ ap (λ k. numbers_in k (J ++ (strips_bytes ss ++ rest))) (sym deep.0) ∙ numbers_of s.numbers (strips_bytes ss ++ rest) in
    let n : 1 + 2 * D ≡ suc (length J) = omega (arith, length_two s.numbers, deep.0) in
    let past : drop (1 + 2 * D) (s.place ∷ ((J ++ strips_bytes ss) ++ rest)) ≡ strips_bytes ss ++ rest = ap (λ k. drop k (s.place ∷ ((J ++ strips_bytes ss) ++ rest))) n ∙ ap (drop (length J)) all ∙ drop_at J (strips_bytes ss ++ rest) (length J) refl in
    let one : strip_in D (s.place ∷ ((J ++ strips_bytes ss) ++ rest)) ≡ s = ap (λ (ns : List ℕ). strip s.place ns) nums in
    let rest-is = ap (strips_in D (length ss)) past ∙ strips_of D ss rest deep.1 in
    cc

pub strips-back : (D c : ℕ) (bs : List ℕ) → ((i : ℕ) → get_or bs i 0 < 256) → length bs ≡ c * (1 + 2 * D) → strips_bytes (strips_in D c bs) ≡ bs
strips-back D zero bs small e = sym (nil_from_length bs (e ∙ zero-mul (1 + 2 * D)))
strips-back D (suc c) [] small e = absurd (let m = once_more c (1 + 2 * D) in let z : ⊥ = omega arith in z)
strips-back D (suc c) (b ∷ bs) small e =
    let m = once_more c (1 + 2 * D) in
    let n : 1 + 2 * D ≡ suc (2 * D) = omega arith in
    let room : 2 * D ≤ length bs = omega arith in
    let left : length (drop (2 * D) bs) ≡ c * (1 + 2 * D) = length-drop (2 * D) bs ∙ (omega arith) in
    let here = bytes_of D bs (λ i. small (suc i)) room in
    let there = strips-back D c (drop (2 * D) bs) (λ i. rw (get_or-drop (2 * D) bs i 0) (small (suc (2 * D + i)))) left in
    let past : drop (1 + 2 * D) (b ∷ bs) ≡ drop (2 * D) bs = ap (λ k. drop k (b ∷ bs)) n in
    let tail = ap (λ x. strips_bytes (strips_in D c x)) past ∙ there in
    let whole = take-append-drop (2 * D) bs in
    cc

-- what is held of the bytes of strips
pub held_of : (h : Heading) (ss : List Strip) → AllByRecursion (λ s. length s.numbers ≡ h.depth) ss → held h (strips_bytes ss) ≡ ss
held_of h ss deep =
    let pos : 0 < 1 + 2 * h.depth = omega arith in
    let n : length (strips_bytes ss) / (1 + 2 * h.depth) ≡ length ss = ap (λ k. k / (1 + 2 * h.depth)) (length-strips h.depth ss deep) ∙ mul-div_cancel (length ss) pos in
    let e = append-nil (strips_bytes ss) in
    ap (λ k. strips_in h.depth k (strips_bytes ss)) n ∙ ap (strips_in h.depth (length ss)) (sym e) ∙ strips_of h.depth ss [] deep

abbrev pub heading : ℕ → ℕ → ℕ → ℕ → ℕ → Heading
heading a b c d e = record { kind = a; modulus = b; n = c; k = d; depth = e }

pub heading-same : (h h' : Heading) → h.kind ≡ h'.kind → h.modulus ≡ h'.modulus → h.n ≡ h'.n → h.k ≡ h'.k → h.depth ≡ h'.depth → h ≡ h'
heading-same h h' a b c d e =
    ap (λ x. heading x h.modulus h.n h.k h.depth) a
    ∙ ap (λ x. heading h'.kind x h.n h.k h.depth) b
    ∙ ap (λ x. heading h'.kind h'.modulus x h.k h.depth) c
    ∙ ap (λ x. heading h'.kind h'.modulus h'.n x h.depth) d
    ∙ ap (λ x. heading h'.kind h'.modulus h'.n h'.k x) e

pub tail_same : (t t' : List ℕ) (f f' : List ℕ) → length t ≡ length t' → f ++ t ≡ f' ++ t' → (f ≡ f') × (t ≡ t')
tail_same t t' f f' l e =
    let n : length f' ≡ length f = omega (arith, simp length-append at (ap length e)) in (
      sym (take_at f t (length f) refl) ∙ ap (take (length f)) e ∙ take_at f' t' (length f) n,
      sym (drop_at f t (length f) refl) ∙ ap (drop (length f)) e ∙ drop_at f' t' (length f) n,
    )

pub number_same : (x y : ℕ) → x / 256 ≡ y / 256 → x % 256 ≡ y % 256 → x ≡ y
number_same x y a b = omega arith

pub trailer-same : (h h' : Heading) (b b' : ℕ) → trailer h b ≡ trailer h' b' → (h ≡ h') × (b ≡ b')
trailer-same h h' b b' e =
    let k : h.kind ≡ h'.kind = cc in
    let nh : h.modulus / 256 ≡ h'.modulus / 256 = cc in
    let nl : h.modulus % 256 ≡ h'.modulus % 256 = cc in
    let l : h.n ≡ h'.n = cc in
    let d : h.k ≡ h'.k = cc in
    let p : h.depth ≡ h'.depth = cc in
    let bh : b / 256 ≡ b' / 256 = cc in
    let bl : b % 256 ≡ b' % 256 = cc in
    (heading-same h h' k (number_same h.modulus h'.modulus nh nl) l d p, number_same b b' bh bl)

-- two forms of one file are the same
pub alone : (h h' : Heading) (ss ss' : List Strip) (file : List ℕ) → Form h ss file → Form h' ss' file → (h' ≡ h) × (ss' ≡ ss)
alone h h' ss ss' file f f' =
    let B : List ℕ = strips_bytes ss in
    let B' : List ℕ = strips_bytes ss' in
    let e : (f.ignored ++ B) ++ trailer h (length B) ≡ (f'.ignored ++ B') ++ trailer h' (length B') = append_assoc f.ignored B (trailer h (length B)) ∙ sym f.bytes ∙ f'.bytes ∙ sym (append_assoc f'.ignored B' (trailer h' (length B'))) in
    let t = tail_same (trailer h (length B)) (trailer h' (length B')) (f.ignored ++ B) (f'.ignored ++ B') refl e in
    let s = trailer-same h h' (length B) (length B') t.1 in
    let b = tail_same B B' f.ignored f'.ignored s.1 t.0 in
    (sym s.0, sym (held_of h' ss' f'.deep) ∙ ap (held h') (sym b.1) ∙ ap (λ x. held x B) (sym s.0) ∙ held_of h ss f.deep)

pub small_take : (n : ℕ) (xs : List ℕ) → ((i : ℕ) → get_or xs i 0 < 256) → (i : ℕ) → get_or (take n xs) i 0 < 256
small_take zero xs small i = lit< tt
small_take (suc n) [] small i = lit< tt
small_take (suc n) (x ∷ xs) small zero = small 0
small_take (suc n) (x ∷ xs) small (suc i) = small_take n xs (λ j. small (suc j)) i

-- what a file that ends so has to be, to have a form
pub must : (h h' : Heading) (back : ℕ) (front : List ℕ) (ss : List Strip) (file : List ℕ) → file ≡ front ++ trailer h back → Form h' ss file → (h' ≡ h) × (back ≤ length file - 8) × (back % (1 + 2 * h.depth) ≡ 0)
must h h' back front ss file e f =
    let B : List ℕ = strips_bytes ss in
    let same : (f.ignored ++ B) ++ trailer h' (length B) ≡ front ++ trailer h back = append_assoc f.ignored B (trailer h' (length B)) ∙ sym f.bytes ∙ e in
    let t = tail_same (trailer h' (length B)) (trailer h back) (f.ignored ++ B) front refl same in
    let s = trailer-same h' h (length B) back t.1 in
    let l = ap length f.bytes ∙ length-append f.ignored (B ++ trailer h' (length B)) in
    let l2 = length-append B (trailer h' (length B)) in
    let n = length-strips h'.depth ss f.deep in (
      s.0,
      omega (arith, s.1),
      ap (λ k. k % (1 + 2 * h.depth)) (sym s.1 ∙ n ∙ ap (λ (x : Heading). length ss * (1 + 2 * x.depth)) s.0) ∙ mul-mod_left (length ss) (1 + 2 * h.depth),
    )

pub form_of : (h : Heading) (back : ℕ) (file : List ℕ) → ((i : ℕ) → get_or file i 0 < 256) → 8 ≤ length file → file ≡ take (length file - 8) file ++ trailer h back → back ≤ length file - 8 → back % (1 + 2 * h.depth) ≡ 0 → Form h (held h (take ((length file - 8) - ((length file - 8) - back)) (drop ((length file - 8) - back) file))) file
form_of h back file small eight ends room whole =
    let E : ℕ = length file - 8 in
    let s : ℕ = E - back in
    let part : List ℕ = take (E - s) (drop s file) in
    let w : ℕ = 1 + 2 * h.depth in
    let long : length part ≡ back = simp (length-take, length-drop) (omega arith) in
    let sum : s + (E - s) ≡ E = omega arith in
    let low : s ≤ E = omega arith in
    let cut : drop s (take E file) ≡ part = ap (λ k. drop s (take k file)) (sym sum) ∙ drop-take s (E - s) file in
    let front : take s (take E file) ≡ take s file = take-take s E file low in
    let join = take-append-drop s (take E file) in
    let count : length part ≡ (length part / w) * w = sym (div-add-mod' (length part) w) ∙ (let z : length part % w ≡ 0 = ap (λ k. k % w) long ∙ whole in omega arith) in
    let small' : (i : ℕ) → get_or part i 0 < 256 = λ i. small_take (E - s) (drop s file) (λ j. rw (get_or-drop s file j 0) (small (s + j))) i in
    let SB = strips-back h.depth (length part / w) part small' count in
    let split = append_assoc (take s file) part (trailer h back) in
    record { ignored = take s file; deep = deep_in h.depth (length part / w) part; bytes = cc }

pub room : (i n w : ℕ) → 0 < w → i < n / w → i * w + w ≤ n
room i n w pos h = let a : suc i * w ≤ n = (le-div_iff_mul-le pos).0 h in omega (arith, suc-mul i w)

-- strip i of the part with the strips: its place, and its numbers
pub piece : (D : ℕ) (bs : List ℕ) (i : ℕ) (d : Strip) → ((i : ℕ) → get_or bs i 0 < 256) → i < length bs / (1 + 2 * D) →
    (get_or (take (1 + 2 * D) (drop (i * (1 + 2 * D)) bs)) 0 0 ≡ (get_or (strips_in D (length bs / (1 + 2 * D)) bs) i d).place)
    × (take (length (take (1 + 2 * D) (drop (i * (1 + 2 * D)) bs)) - 1) (drop 1 (take (1 + 2 * D) (drop (i * (1 + 2 * D)) bs))) ≡ flat_map two (get_or (strips_in D (length bs / (1 + 2 * D)) bs) i d).numbers)
piece D bs i d small h =
    let w : ℕ = 1 + 2 * D in
    let xs : List ℕ = drop (i * w) bs in
    let at = strip-at D (length bs / w) bs i d h in
    let r = room i (length bs) w (omega arith) h in
    let long : w ≤ length xs = simp length-drop (omega arith) in
    let past : length (drop 1 xs) ≡ length xs - 1 = length-drop 1 xs in
    let all = bytes_of D (drop 1 xs) (λ j. rw (get_or-drop 1 xs j 0, get_or-drop (i * w) bs (1 + j) 0) (small (i * w + (1 + j)))) (omega arith) in
    let cut : drop 1 (take w xs) ≡ take (2 * D) (drop 1 xs) = drop-take 1 (2 * D) xs in
    let few : length (take w xs) - 1 ≡ 2 * D = simp length-take (omega arith) in
    let whole : length (take (2 * D) (drop 1 xs)) ≤ 2 * D = simp length-take (omega arith) in (
      get_or-take w xs 0 0 (omega arith) ∙ sym (ap (λ (s : Strip). s.place) at),
      ap (λ k. take k (drop 1 (take w xs))) few ∙ ap (take (2 * D)) cut ∙ take_all (2 * D) (take (2 * D) (drop 1 xs)) whole ∙ sym all ∙ sym (ap (λ (s : Strip). flat_map two s.numbers) at),
    )

peel : (xs : List ℕ) (i j : ℕ) → i < length xs → i + 1 ≡ j → drop i xs ≡ get_or xs i 0 ∷ drop j xs
peel xs i j h e = drop_more xs i 0 h ∙ ap (λ k. get_or xs i 0 ∷ drop k xs) e

pub last_eight : (xs : List ℕ) → 8 ≤ length xs → xs ≡ take (length xs - 8) xs ++ (get_or xs (length xs - 8) 0 ∷ get_or xs (length xs - 7) 0 ∷ get_or xs (length xs - 6) 0 ∷ get_or xs (length xs - 5) 0 ∷ get_or xs (length xs - 4) 0 ∷ get_or xs (length xs - 3) 0 ∷ get_or xs (length xs - 2) 0 ∷ get_or xs (length xs - 1) 0 ∷ [])
last_eight xs h =
    let n : ℕ = length xs in
    let a = peel xs (n - 8) (n - 7) (omega arith) (omega arith) in
    let b = peel xs (n - 7) (n - 6) (omega arith) (omega arith) in
    let c = peel xs (n - 6) (n - 5) (omega arith) (omega arith) in
    let d = peel xs (n - 5) (n - 4) (omega arith) (omega arith) in
    let e = peel xs (n - 4) (n - 3) (omega arith) (omega arith) in
    let f = peel xs (n - 3) (n - 2) (omega arith) (omega arith) in
    let g = peel xs (n - 2) (n - 1) (omega arith) (omega arith) in
    let k = peel xs (n - 1) n (omega arith) (omega arith) in
    let z = drop_all n xs (omega arith) in
    let w = take-append-drop (n - 8) xs in
    cc

-- what stands before the last eight bytes
pub front-is : (h : Heading) (back : ℕ) (file front : List ℕ) → file ≡ front ++ trailer h back → file ≡ take (length file - 8) file ++ trailer h back
front-is h back file front e =
    let l = ap length e ∙ length-append front (trailer h back) in
    let n : length front ≡ length file - 8 = omega arith in
    let t : take (length file - 8) file ≡ front = ap (take (length file - 8)) e ∙ take_at front (trailer h back) (length file - 8) n in
    e ∙ ap (λ (x : List ℕ). x ++ trailer h back) (sym t)
