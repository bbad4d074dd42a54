-- What the code's decode says of one row of the records, and of all.
use Rattle.std.proofs.Common.{◌≡◌, ℕ, zero, suc, ◌+◌, ◌-◌, ◌*◌, ◌<◌, ◌≤◌, cond, eqb, ◌⊎◌, List, [], ◌∷◌, map, length, take, drop, Some, None, Ok, Err, Option, Result, sym, refl, ap, ◌∙◌, subst, inl, inr, mul-le-mul_right, suc-mul, add-one, arith, length-take, get_or-take, below_more}
use borrow.Rule.Slice.PartMut.{put_mid}
use Rattle.std.specs.Result.{MatchResult, IsErrAnd}
use Rattle.std.proofs.lemmas.List.{length-map}
use Rattle.std.proofs.lemmas.Result.{err_from_is_err_and}
use Rattle.std.proofs.lemmas.Slice.{between-put_mid, between_is, take-put_mid_below}
use Rattle.std.proofs.lemmas.Bool.Decides.{nat_tests}
use Rattle.fields.specs.Checks.{Check}
use Rattle.codes.specs.Checks.{unmarked_check}
use Rattle.codes.specs.Meaning.{Meaning, Reached, decode_check, Decided}
use Rattle.codes.specs.Words.{wrong}
use Rattle.codes.specs.declared.fault.CodeFault.{CodeFault}
use Rattle.codes.specs.declared.fault.CodeFault.TheVariants.{Reach}
use Rattle.carrier.specs.declared.fault.RowFault.{RowFault}
use Rattle.carrier.specs.Book.{Book}
use Rattle.carrier.specs.Records.{records, held}
use Rattle.carrier.specs.Sheets.{entry, mark, received, marks, row, InReach, Row, wrongs}

entry-held : (i D : ℕ) (o : Option (List ℕ)) → i < D → entry i (held D o) ≡ entry i o
entry-held i D None h = refl
entry-held i D (Some s) h = get_or-take D s i 0 h

mark-held : (D : ℕ) (o : Option (List ℕ)) → mark (held D o) ≡ mark o
mark-held D None = refl
mark-held D (Some s) = refl

pub received-held : (i D : ℕ) (b : List (Option (List ℕ))) → i < D → received i (map (held D) b) ≡ received i b
received-held i D [] h = refl
received-held i D (o ∷ b) h = let e = entry-held i D o h in let r = received-held i D b h in cc

pub marks-held : (D : ℕ) (b : List (Option (List ℕ))) → marks (map (held D) b) ≡ marks b
marks-held D [] = refl
marks-held D (o ∷ b) = let e = mark-held D o in let r = marks-held D b in cc

-- decode where all checks but the numbers' pass
checks_left : (m : Meaning) (need : ℕ) (rs ms : List ℕ) (room lent : ℕ) → m.fitness ≡ Ok tt → length rs ≡ m.long → length ms ≡ m.long → room ≡ m.dimension → need ≤ lent → decode_check m need rs ms room lent ≡ unmarked_check m.order 0 rs ms
checks_left m need rs ms room lent e a b c d = rw e (grind (arith, nat_tests))

-- one row, with the numbers' check
unfoldable pub OneRow : (m : Meaning) (rs ms new : List ℕ) → Result ℕ CodeFault → Type 0
OneRow m rs ms new (Ok e) = Reached m rs ms new × (e ≡ wrong rs ms (m.word new))
OneRow m rs ms new (Err f) = (unmarked_check m.order 0 rs ms ≡ Err f) ⊎ ((f ≡ Reach) × ((x : List ℕ) → Reached m rs ms x → ⊥))

row_at : (u : Check CodeFault) (m : Meaning) (need : ℕ) (rs ms old new scr scr' : List ℕ) (r : Result ℕ CodeFault) → unmarked_check m.order 0 rs ms ≡ u → Decided u m need rs ms old new scr scr' r → OneRow m rs ms new r × (drop need scr' ≡ drop need scr)
unfolding OneRow
row_at (Ok u) m need rs ms old new scr scr' (Ok e) i h = ((h.solved.reached, h.solved.counted), h.rest)
row_at (Ok u) m need rs ms old new scr scr' (Err f) i h = (inr (h.solved.fault, h.solved.none), h.rest)
row_at (Err g) m need rs ms old new scr scr' (Ok e) i h = let x = h.answer in let z : ◌≡◌ {A = ℕ} 0 1 = cc in absurd (omega arith)
row_at (Err g) m need rs ms old new scr scr' (Err f) i h =
    let x = h.answer in
    let same : g ≡ f = cc in
    (inl (i ∙ ap {B = Check CodeFault} (λ (x : CodeFault). Err x) same), ap (drop need) h.scratch_kept)

-- one row, in terms of the records
pub column_row : (m : Meaning) (need D : ℕ) (strips : List (Option (List ℕ))) (i wide : ℕ) (rs ms : List ℕ) (room lent : ℕ) (old new scr scr' : List ℕ) (r : Result ℕ CodeFault) →
    m.fitness ≡ Ok tt → i < D → wide ≡ m.long → length rs ≡ m.long → length ms ≡ m.long → room ≡ m.dimension → need ≤ lent → rs ≡ received i (take wide strips) → ms ≡ marks (take wide strips) →
    Decided (decode_check m need rs ms room lent) m need rs ms old new scr scr' r →
    OneRow m (received i (records m.long D strips)) (marks (records m.long D strips)) new r × (drop need scr' ≡ drop need scr)
column_row m need D strips i wide rs ms room lent old new scr scr' r e in' w a b c l x y h =
    let n = m.long in
    let x' : rs ≡ received i (records n D strips) = x ∙ ap (λ (t : ℕ). received i (take t strips)) w ∙ sym (received-held i D (take n strips) in') in
    let y' : ms ≡ marks (records n D strips) = y ∙ ap (λ (t : ℕ). marks (take t strips)) w ∙ sym (marks-held D (take n strips)) in
    let p = row_at (unmarked_check m.order 0 rs ms) m need rs ms old new scr scr' r refl
    (subst (λ (x : Check CodeFault). Decided x m need rs ms old new scr scr' r) (checks_left m need rs ms room lent e a b c l) h) in
    (subst (λ (t : List ℕ). OneRow m (received i (records n D strips)) t new r) y' (subst (λ (t : List ℕ). OneRow m t ms new r) x' p.0), p.1)

-- what one row gives, with the row told beside the code's fault
pub row_told : (m : Meaning) (b : Book) (i : ℕ) (new : List ℕ) (r : Result ℕ CodeFault) (told : Result ℕ RowFault) {Q : CodeFault → RowFault → Type 0} →
    ((e : CodeFault) (f : RowFault) → Q e f → f ≡ record { fault = e; row = i }) → MatchResult r (λ x. told ≡ Ok x) (λ e. IsErrAnd told (Q e)) →
    OneRow m (received i b) (marks b) new r → Row m b i new told
unfolding OneRow
row_told m b i new (Ok e) told named is one = rw is one
row_told m b i new (Err e) told named is one =
    let p = err_from_is_err_and told is in
    rw (p.1, named e p.0 p.2) (refl, one)

wrong-few : (rs ms ws : List ℕ) → wrong rs ms ws ≤ length rs
wrong-few [] ms ws = omega arith
wrong-few (r ∷ rs) [] ws = omega arith
wrong-few (r ∷ rs) (m ∷ ms) [] = omega arith
wrong-few (r ∷ rs) (m ∷ ms) (w ∷ ws) = let i = wrong-few rs ms ws in let o : cond (eqb m 0) (cond (eqb r w) 0 1) 0 ≤ 1 = grind (arith, nat_tests) in omega arith

pub row-few : (i n D : ℕ) (strips : List (Option (List ℕ))) (ws : List ℕ) → n ≤ 128 → wrong (received i (records n D strips)) (marks (records n D strips)) ws ≤ 128
row-few i n D strips ws h =
    let a = wrong-few (received i (records n D strips)) (marks (records n D strips)) ws in
    let b : length (received i (records n D strips)) ≤ n = simp (length-map, length-take) (omega arith) in
    omega arith

pub wrongs-same : (m : Meaning) (b : Book) (s t : List ℕ) (i : ℕ) → ((j : ℕ) → j < i → row m.dimension j s ≡ row m.dimension j t) → wrongs m b s i ≡ wrongs m b t i
wrongs-same m b s t zero h = refl
wrongs-same m b s t (suc i) h =
    let k = m.dimension in
    let r = wrongs-same m b s t i (λ j l. h j (omega arith)) in
    let e = h i (omega arith) in
    ap (λ (x : ℕ). x + wrong (received i b) (marks b) (m.word (row k i s))) r ∙ ap (λ (x : List ℕ). wrongs m b t i + wrong (received i b) (marks b) (m.word x)) e

pub next_within : (i D k : ℕ) → i < D → i * k + k ≤ D * k
next_within i D k h = let m = mul-le-mul_right {m = suc i} {n = D} k h in omega (arith, suc-mul i k)

-- the sheet after row i is written
module _ (k i size : ℕ) (sheet new : List ℕ) (fits : i * k + k ≤ length sheet) (long : length new ≡ k) (same : size ≡ k) where
  pub row_here : row k i (put_mid (i * k) size sheet new) ≡ new
  row_here =
      let e : k ≡ (i * k + k) - i * k = omega arith in
      let f : length new ≡ (i * k + k) - i * k = omega arith in
      ap (λ (t : ℕ). take t (drop (i * k) (put_mid (i * k) size sheet new))) e ∙ between-put_mid (i * k) size sheet new (i * k + k) (omega arith) f

  pub row_before : (j : ℕ) → j < i → row k j (put_mid (i * k) size sheet new) ≡ row k j sheet
  row_before j h =
      let w = next_within j i k h in
      let e : k ≡ (j * k + k) - j * k = omega arith in
      ap (λ (t : ℕ). take t (drop (j * k) (put_mid (i * k) size sheet new))) e
      ∙ between_is (put_mid (i * k) size sheet new) (j * k) (j * k + k)
      ∙ ap (drop (j * k)) (take-put_mid_below (i * k) size sheet new (j * k + k) w (omega arith))
      ∙ sym (between_is sheet (j * k) (j * k + k))
      ∙ ap (λ (t : ℕ). take t (drop (j * k) sheet)) (sym e)

pub rows_more : (m : Meaning) (b : Book) (i size : ℕ) (sheet new : List ℕ) (w e : ℕ) → i * m.dimension + m.dimension ≤ length sheet → length new ≡ m.dimension → size ≡ m.dimension → w ≡ wrongs m b sheet i →
    ((j : ℕ) → j < i → InReach m b j (row m.dimension j sheet)) → InReach m b i new → e ≡ wrong (received i b) (marks b) (m.word new) →
    (w + e ≡ wrongs m b (put_mid (i * m.dimension) size sheet new) (i + 1)) × ((j : ℕ) → j < i + 1 → InReach m b j (row m.dimension j (put_mid (i * m.dimension) size sheet new)))
rows_more m b i size sheet new w e fits long same a h x y =
    let k = m.dimension in
    let put = put_mid (i * k) size sheet new in
    let here = row_here k i size sheet new fits long same in
    let before = row_before k i size sheet new fits long same in
    let s = wrongs-same m b sheet put i (λ j l. sym (before j l)) in
    let t : wrongs m b put (i + 1) ≡ wrongs m b put i + wrong (received i b) (marks b) (m.word (row k i put)) = rw add-one refl in
    let z : wrong (received i b) (marks b) (m.word (row k i put)) ≡ wrong (received i b) (marks b) (m.word new) = ap (λ (v : List ℕ). wrong (received i b) (marks b) (m.word v)) here in (
      omega (arith, a, s, t, z, y),
      below_more (λ j. InReach m b j (row k j put)) i (λ j l. subst (λ (v : List ℕ). InReach m b j v) (sym (before j l)) (h j l)) (subst (λ (v : List ℕ). InReach m b i v) (sym here) x),
    )
