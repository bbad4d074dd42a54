-- What the checks of an evaluation code say.
use Rattle.std.specs.Prelude.{◌≡◌, ℕ, ◌+◌, ◌<◌, ◌≤◌, false, not, ◌&&◌, ◌≢◌, List, [], ◌∷◌, ◌++◌, length, take, drop, Ok, Err, nat_eq, nat_lt, slice_index, refl}
use Rattle.std.proofs.Common.{append_assoc, sym, ap, subst, ◌∙◌, arith}
use Rattle.std.proofs.lemmas.List.{at_drop_more, take_more}
use Rattle.std.proofs.lemmas.Bool.Decides.{nat_tests}
use Rattle.std.specs.List.{AllByRecursion}
use Rattle.fields.specs.Numbers.{Below, Distinct, among}
use Rattle.fields.specs.Checks.{Check, unless, and_then}
use Rattle.codes.specs.declared.fault.FitnessFault.{FitnessFault}
use Rattle.codes.specs.declared.fault.FitnessFault.TheVariants.{Point}
use Rattle.evaluation.specs.Evaluation.{shape_check, point_check, evaluation_fit, Proper}
use Rattle.evaluation.specs.Places.{distinct_push}

-- one step of the check
pub points_more : (q : ℕ) (xs : List ℕ) (i : ℕ) → i < length xs
    → point_check q (take i xs) i (drop i xs) ≡ unless (nat_lt (slice_index xs i) q && not (among (slice_index xs i) (take i xs))) (Point i) (point_check q (take (i + 1) xs) (i + 1) (drop (i + 1) xs))
points_more q xs i h =
    at_drop_more (point_check q (take i xs) i) xs i 0 h
    ∙ ap (λ (b : List ℕ). unless (nat_lt (slice_index xs i) q && not (among (slice_index xs i) (take i xs))) (Point i) (point_check q b (i + 1) (drop (i + 1) xs))) (sym (take_more xs i 0 h))

pub absent : (x : ℕ) (ys : List ℕ) → among x ys ≡ false → AllByRecursion (λ y. y ≢ x) ys
absent x [] e = tt
absent x (y ∷ ys) e =
    let here : nat_eq x y ≡ false = grind (arith, nat_tests) in
    let rest : among x ys ≡ false = grind (arith, nat_tests) in
    ((λ s. grind (arith, nat_tests)), absent x ys rest)

pub not_among : (x : ℕ) (ys : List ℕ) → AllByRecursion (λ y. y ≢ x) ys → among x ys ≡ false
not_among x [] h = refl
not_among x (y ∷ ys) h = let r = not_among x ys h.1 in let n : y ≢ x = h.0 in grind (arith, nat_tests)

pub points_good : (q : ℕ) (before : List ℕ) (i : ℕ) (xs : List ℕ) → point_check q before i xs ≡ Ok tt → Distinct before → Below q xs × Distinct (before ++ xs)
points_good q before i [] e d = (tt, subst Distinct (sym (append-nil before)) d)
  where
    append-nil : (ys : List ℕ) → ys ++ [] ≡ ys
    append-nil [] = refl
    append-nil (y ∷ ys) = ap (λ t. y ∷ t) (append-nil ys)
points_good q before i (x ∷ xs) e d =
    let l : x < q = grind (arith, nat_tests) in
    let n : among x before ≡ false = grind (arith, nat_tests) in
    let e' : point_check q (before ++ x ∷ []) (i + 1) xs ≡ Ok tt = grind (arith, nat_tests) in
    let r = points_good q (before ++ x ∷ []) (i + 1) xs e' (distinct_push before x d (absent x before n)) in
    ((l, r.0), subst Distinct (append_assoc before (x ∷ []) xs) r.1)

-- no number of the first list stands in the second
all_apart : (before : List ℕ) (x : ℕ) (xs : List ℕ) → Distinct (before ++ x ∷ xs) → AllByRecursion (λ y. y ≢ x) before
all_apart [] x xs d = tt
all_apart (y ∷ ys) x xs d = (λ e. last_of ys d.0 (sym e), all_apart ys x xs d.1)
  where
    last_of : (zs : List ℕ) → AllByRecursion (λ z. z ≢ y) (zs ++ x ∷ xs) → x ≢ y
    last_of [] h = h.0
    last_of (z ∷ zs) h = last_of zs h.1

pub good_points : (q : ℕ) (before : List ℕ) (i : ℕ) (xs : List ℕ) → Below q xs → Distinct (before ++ xs) → point_check q before i xs ≡ Ok tt
good_points q before i [] b d = refl
good_points q before i (x ∷ xs) b d =
    let l : x < q = b.0 in
    let n = not_among x before (all_apart before x xs d) in
    let r = good_points q (before ++ x ∷ []) (i + 1) xs b.1 (subst Distinct (sym (append_assoc before (x ∷ []) xs)) d) in
    grind (arith, nat_tests)

pub split_shape : (n k count : ℕ) → shape_check n k count ≡ Ok tt → (1 ≤ n) × (n ≤ 128) × (count ≡ n) × (1 ≤ k) × (k ≤ n)
split_shape n k count e = (grind (arith, nat_tests), grind (arith, nat_tests), grind (arith, nat_tests), grind (arith, nat_tests), grind (arith, nat_tests))

split_fit : (s p : Check FitnessFault) → and_then s p ≡ Ok tt → (s ≡ Ok tt) × (p ≡ Ok tt)
split_fit (Ok u) p e = (refl, e)
split_fit (Err f) p e = let z : ◌≡◌ {A = ℕ} 0 1 = cc in absurd (omega arith)

pub fit-proper : (q n k : ℕ) (points : List ℕ) → evaluation_fit q n k points ≡ Ok tt → Proper q n k points
fit-proper q n k points e =
    let p = split_fit (shape_check n k (length points)) (point_check q [] 0 points) e in
    let s = split_shape n k (length points) p.0 in
    let g = points_good q [] 0 points p.1 tt in
    record { some = s.0; few = s.1; counted = s.2; low = s.3; high = s.4; below = g.0; distinct = g.1 }

shaped : (n k count : ℕ) → 1 ≤ n → n ≤ 128 → count ≡ n → 1 ≤ k → k ≤ n → shape_check n k count ≡ Ok tt
shaped n k count a b c d e = grind (arith, nat_tests)

pub proper_fit : (q n k : ℕ) (points : List ℕ) → Proper q n k points → evaluation_fit q n k points ≡ Ok tt
proper_fit q n k points p =
    ap (λ (s : Check FitnessFault). and_then s (point_check q [] 0 points)) (shaped n k (length points) p.some p.few p.counted p.low p.high)
    ∙ good_points q [] 0 points p.below p.distinct
