-- The code of a heading that is fit, and what a collector of it makes of a file's strips.
use Rattle.std.proofs.Common.{◌≡◌, ℕ, ◌+◌, ◌*◌, ◌≤◌, List, length, take, replicate, Some, None, Ok, Err, Option, Result, sym, refl, ap, ◌∙◌, subst, mul-le-mul, arith, length-take}
use Rattle.std.proofs.lemmas.Bool.Decides.{nat_tests}
use Rattle.fields.specs.Arithmetic.{Arithmetic}
use Rattle.fields.specs.Checks.{Check, and_then}
use Rattle.codes.specs.Lists.{counting}
use Rattle.codes.specs.Meaning.{Meaning}
use Rattle.codes.specs.declared.fault.FitnessFault.{FitnessFault}
use Rattle.evaluation.specs.Evaluation.{evaluation, shape_check, point_check}
use Rattle.carrier.specs.Checks.{fit_check}
use Rattle.carrier.specs.Places.{held_places}
use Rattle.carrier.specs.Promise.{Fit, Right, Reading}
use Rattle.carrier.specs.declared.fault.CollectorFault.{CollectorFault}
use Rattle.carrier.proofs.Records.{fits}
use Rattle.file.specs.declared.heading.Heading.{Heading}
use Rattle.file.specs.declared.received.Received.{Received}
use Rattle.file.specs.declared.source.Outcome.{Outcome}
use Rattle.file.specs.Deliveries.{declined, book_after}
use Rattle.file.specs.Form.{Strip}
use Rattle.file.specs.Meant.{code_of, code_over, field_of, need_of}
use Rattle.file.specs.Reads.{Taken}
use Rattle.file.specs.Receipts.{CollectedBy, Carries, CarriesNone}

-- a heading's numbers where its collector is fit
pub record Shape (h : Heading) (M : Meaning) : Type 0 where
  pub few : h.n ≤ 128
  pub high : h.k ≤ h.n
  pub long : M.long ≡ h.n
  pub dimension : M.dimension ≡ h.k
  pub fit : Fit M h.depth

bounds : (n k count : ℕ) (later : Check FitnessFault) → and_then (shape_check n k count) later ≡ Ok tt → (n ≤ 128) × (k ≤ n)
bounds n k count later e = (grind (arith, nat_tests), grind (arith, nat_tests))

pub shape_over : (h : Heading) (o : Option Arithmetic) (M : Meaning) → code_over h o ≡ Some M → fit_check M h.depth ≡ Ok tt → Shape h M
shape_over h None M e f = let z : ◌≡◌ {A = ℕ} 0 1 = cc in absurd (omega arith)
shape_over h (Some F) M e f =
    let E : Meaning = evaluation F h.n h.k (counting 0 h.n) in
    let same : E ≡ M = cc in
    let P : Meaning → Type 0 = λ m. fit_check m h.depth ≡ Ok tt → Shape h m in
    let here : P E = λ fit.
    let p = fits E.fitness h.depth fit in
    let b = bounds h.n h.k (length (counting 0 h.n)) (point_check F.order _ 0 (counting 0 h.n)) p.code in
    record { few = b.0; high = b.1; long = refl; dimension = refl; fit = record { fits = p.code; shallow = p.low; deep = p.high } } in
    subst P same here f

pub shape : (h : Heading) (ss : List Strip) (file : List ℕ) (T : Taken h ss file) → Shape h T.meaning
shape h ss file T = shape_over h (field_of h) T.meaning T.holds.code T.holds.fit

pub few-numbers : (h : Heading) (ss : List Strip) (file : List ℕ) → Taken h ss file → h.depth * h.k ≤ 2048
few-numbers h ss file T =
    let s = shape h ss file T in
    let k : h.k ≤ 128 = omega (arith, s.few, s.high) in
    mul-le-mul s.fit.deep k

-- what a collector of the heading's code makes of the strips
pub record Made (M : Meaning) (D : ℕ) (ss : List Strip) (old new : List ℕ) (o : Outcome) : Type 0 where
  pub kept : o.kept ≡ held_places (book_after M D ss)
  pub declined : o.declined ≡ declined M D (replicate M.long None) ss
  pub reading : Reading M D (book_after M D ss) old o.wrong new

pub made : (h : Heading) (ss : List Strip) (file : List ℕ) (T : Taken h ss file) (old new scr scr' : List ℕ) (o : Outcome) → CollectedBy (code_of h) h.depth ss old new scr scr' (Ok o) → length old ≡ h.depth * h.k → 16899 ≤ length scr → Made T.meaning h.depth ss old new o
made h ss file T old new scr scr' o by long room =
    let M = T.meaning in
    let s = shape h ss file T in
    let P : Option Meaning → Type 0 = λ m. CollectedBy m h.depth ss old new scr scr' (Ok o) in
    let all = subst P T.holds.code by in
    let n : M.long ≤ 128 = omega (arith, s.long, s.few) in
    let need : need_of M ≤ 129 * 131 = mul-le-mul (let a : M.long + 1 ≤ 129 = omega arith in a) (let b : M.long + 3 ≤ 131 = omega arith in b) in
    let right : Right M (need_of M) h.depth old scr = record { fit = s.fit; page_long = long ∙ ap (λ (k : ℕ). h.depth * k) (sym s.dimension); scratch_long = omega (arith, need) } in
    record { kept = all.kept s.fit; declined = all.declined; reading = all.reading right }

-- what is received
pub carries : (file : List ℕ) (ss : List Strip) (x : Received) (old : List ℕ) (h : Heading) → x.heading ≡ h → (T : Taken h ss file) →
    x.kept ≡ held_places (book_after T.meaning h.depth ss) → x.declined ≡ declined T.meaning h.depth (replicate T.meaning.long None) ss →
    Reading T.meaning h.depth (book_after T.meaning h.depth ss) old (Ok x.wrong) (take (h.depth * h.k) x.sheet) → Carries file x
carries file ss x old h e =
    let P : Heading → Type 0 = λ g. (T : Taken g ss file) → x.kept ≡ held_places (book_after T.meaning g.depth ss) → x.declined ≡ declined T.meaning g.depth (replicate T.meaning.long None) ss →
    Reading T.meaning g.depth (book_after T.meaning g.depth ss) old (Ok x.wrong) (take (g.depth * g.k) x.sheet) → Carries file x in
    let here : P x.heading = λ T k d r. record { strips = ss; taken = T; kept = k; declined = d; blank = old; reading = r } in
    subst P e here

pub part_long : (blank : List ℕ) (z size : ℕ) → length blank ≡ 2048 → size ≤ 2048 → z ≡ size → length (take z blank) ≡ size
part_long blank z size b h e = simp length-take (omega arith)

-- a reading with a sheet, and one with none
pub found : (M : Meaning) (D : ℕ) (ss : List Strip) (old new new' : List ℕ) (r : Result ℕ CollectorFault) (wrong : ℕ) → r ≡ Ok wrong → new ≡ new' → Reading M D (book_after M D ss) old r new → Reading M D (book_after M D ss) old (Ok wrong) new'
found M D ss old new new' r wrong e same read =
    let P : Result ℕ CollectorFault → List ℕ → Type 0 = λ x y. Reading M D (book_after M D ss) old x y in
    subst (P (Ok wrong)) same (subst (λ (x : Result ℕ CollectorFault). P x new) e read)

pub lost : (h : Heading) (ss : List Strip) (file : List ℕ) (T : Taken h ss file) (old new : List ℕ) (r : Result ℕ CollectorFault) (f : CollectorFault) → r ≡ Err f → Reading T.meaning h.depth (book_after T.meaning h.depth ss) old r new → CarriesNone file f
lost h ss file T old new r f e read =
    let P : Result ℕ CollectorFault → List ℕ → Type 0 = λ x y. Reading T.meaning h.depth (book_after T.meaning h.depth ss) old x y in
    let same : new ≡ old = read.unchanged f e in
    record { heading = h; strips = ss; taken = T; blank = old; reading = subst (P (Err f)) same (subst (λ (x : Result ℕ CollectorFault). P x new) e read) }
