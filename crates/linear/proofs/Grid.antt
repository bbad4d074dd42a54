-- Rows of w numbers one after another.
use Rattle.std.proofs.Common.{◌≡◌, ℕ, suc, ◌+◌, ◌-◌, ◌*◌, ◌/◌, ◌<◌, ◌≤◌, ◌≢◌, Some, None, Option, List, ◌++◌, length, get_or, take, drop, sym, ap, ◌∙◌, subst, mul-le-mul_right, suc-mul, zero-mul, arith, below_more}
use native.Mathlib.Decide.{dec_lt}
use borrow.Rule.Slice.PartMut.{put_mid}
use Rattle.std.proofs.Math.Nat.{mul-div_cancel}
use Rattle.std.proofs.ByRecursion.{All-take, All-drop}
use Rattle.std.proofs.lemmas.List.{drop-take, get_or-take, get_or-drop, drop-drop, drop_at, take_at, take-take, take-append-le, drop-append-le, length-take-le, length-drop}
use Rattle.std.proofs.lemmas.Slice.{take-put_mid_below, drop-put_mid}
use Rattle.fields.specs.Numbers.{Below}
use Rattle.std.specs.Option.{MatchOption}
use Rattle.linear.specs.Equations.{height, row, Pivot}

-- row k ends before row n begins
pub row_ends : (k n w : ℕ) → k < n → k * w + w ≤ n * w
row_ends k n w h = omega (arith, suc-mul k w, mul-le-mul_right w h)

-- n rows of w numbers
pub height_is : (w n : ℕ) (s : List ℕ) → 0 < w → n * w ≡ length s → height w s ≡ n
height_is w n s h e = ap (λ m. m / w) (sym e) ∙ mul-div_cancel n h

pub length-row : (w k : ℕ) (s : List ℕ) → k * w + w ≤ length s → length (row w k s) ≡ w
length-row w k s h = length-take-le w (drop (k * w) s) (omega (arith, length-drop (k * w) s))

pub get_or-row : (w k c : ℕ) (s : List ℕ) → c < w → get_or (row w k s) c 0 ≡ get_or s (k * w + c) 0
get_or-row w k c s h = get_or-take w (drop (k * w) s) c 0 h ∙ get_or-drop (k * w) s c 0

-- a row that lies before or after what was written
pub row_other : (w k d j : ℕ) (s ys : List ℕ) → d ≡ w → k * w ≤ length s → length ys ≡ w → j ≢ k → row w j (put_mid (k * w) d s ys) ≡ row w j s
row_other w k d j s ys width h e ne = go (dec_lt j k)
  where
    go : Dec (j < k) → row w j (put_mid (k * w) d s ys) ≡ row w j s
    go (yes lt) =
        sym (drop-take (j * w) w (put_mid (k * w) d s ys)) ∙ ap (drop (j * w)) (take-put_mid_below (k * w) d s ys (j * w + w) (row_ends j k w lt) h) ∙ drop-take (j * w) w s
    go (no ge) =
        let after : k < j = omega arith in
        ap (take w) (drop-put_mid (k * w) d s ys (j * w) (omega (arith, row_ends k j w after)) h (e ∙ sym width))

-- the row that was written
pub row_same : (w k d : ℕ) (s ys : List ℕ) → k * w ≤ length s → length ys ≡ w → row w k (put_mid (k * w) d s ys) ≡ ys
row_same w k d s ys h e =
    ap (take w) (drop_at (take (k * w) s) (ys ++ drop d (drop (k * w) s)) (k * w) (length-take-le (k * w) s h)) ∙ take_at ys (drop d (drop (k * w) s)) w e

-- a loop that writes G k over each row k
pub rows_more : (G : ℕ → List ℕ) (w k d : ℕ) (s old ys : List ℕ) → d ≡ w → k * w ≤ length s → length ys ≡ w → ys ≡ G k → ((j : ℕ) → j < k → row w j s ≡ G j) → ((j : ℕ) → k ≤ j → row w j s ≡ row w j old)
    → ((j : ℕ) → j < k + 1 → row w j (put_mid (k * w) d s ys) ≡ G j) × ((j : ℕ) → k + 1 ≤ j → row w j (put_mid (k * w) d s ys) ≡ row w j old)
rows_more G w k d s old ys width h e is done left = (
  below_more (λ j. row w j (put_mid (k * w) d s ys) ≡ G j) k (λ j lt. row_other w k d j s ys width h e (omega arith) ∙ done j lt) (row_same w k d s ys h e ∙ is),
  λ j le. row_other w k d j s ys width h e (omega arith) ∙ left j (omega arith),
)

-- a first row before the others
pub row_zero : (w : ℕ) (s : List ℕ) → row w 0 s ≡ take w s
row_zero w s = ap (λ n. take w (drop n s)) (zero-mul w)

pub row-suc : (w k : ℕ) (s : List ℕ) → row w (suc k) s ≡ row w k (drop w s)
row-suc w k s =
    let e : suc k * w ≡ w + k * w = omega (arith, suc-mul k w) in
    ap (take w) (ap (λ n. drop n s) e ∙ sym (drop-drop (k * w) w s))

pub row_first : (w : ℕ) (ys t : List ℕ) → length ys ≡ w → row w 0 (ys ++ t) ≡ ys
row_first w ys t e = row_zero w (ys ++ t) ∙ take_at ys t w e

pub row-rest : (w k : ℕ) (ys t : List ℕ) → length ys ≡ w → row w (suc k) (ys ++ t) ≡ row w k t
row-rest w k ys t e = row-suc w k (ys ++ t) ∙ ap (row w k) (drop_at ys t w e)

-- the rows of a list's front
pub row-front : (w i n : ℕ) (s t : List ℕ) → n * w ≡ length s → i < n → row w i (s ++ t) ≡ row w i s
row-front w i n s t e l =
    let ends : i * w + w ≤ n * w = row_ends i n w l in
    ap (take w) (drop-append-le (i * w) s t (omega arith)) ∙ take-append-le w (drop (i * w) s) t (omega (arith, length-drop (i * w) s))

pub row-taken : (w i m : ℕ) (s : List ℕ) → i * w + w ≤ m → row w i (take m s) ≡ row w i s
row-taken w i m s h =
    let split : i * w + (m - i * w) ≡ m = omega arith in
    ap (λ n. take w (drop (i * w) (take n s))) (sym split) ∙ ap (take w) (drop-take (i * w) (m - i * w) s) ∙ take-take w (m - i * w) (drop (i * w) s) (omega arith)

-- rows of numbers below q, from a list of them
pub below_row : (q w i m : ℕ) (s : List ℕ) → i * w + w ≤ m → Below q (take m s) → Below q (row w i s)
below_row q w i m s h b = subst (Below q) (row-taken w i m s h) (All-take (λ x. x < q) w (drop (i * w) (take m s)) (All-drop (λ x. x < q) (i * w) (take m s) b))

-- what a search of the rows from the first finds
pub pivot_from : (w c n : ℕ) (s : List ℕ) (r : Option ℕ) → MatchOption r ((k : ℕ) → 0 ≤ k → k < n → get_or s (k * w + c) 0 ≡ 0) (λ p. (0 ≤ p) × (p < n) × (get_or s (p * w + c) 0 ≢ 0) × ((k : ℕ) → 0 ≤ k → k < p → get_or s (k * w + c) 0 ≡ 0))
    → Pivot w c n s r
pivot_from w c n s None h = λ k l. h k (omega arith) l
pivot_from w c n s (Some p) h = (h.1, (λ k l. h.3 k (omega arith) l), h.2)
