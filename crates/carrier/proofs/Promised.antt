-- From what each answer of a run says of the records to what the run promises.
use Rattle.std.proofs.Common.{◌≡◌, ℕ, zero, suc, ◌+◌, ◌*◌, ◌<◌, ◌≤◌, Bool, true, false, cond, not, eqb, ◌↔◌, List, [], ◌∷◌, length, get_or, take, drop, replicate, Some, None, Ok, Err, Option, Result, sym, refl, ap, ◌∙◌, subst, arith}
use lib.ListN.{length-replicate}
use Rattle.std.proofs.lemmas.Bool.Decides.{nat_tests}
use Rattle.fields.specs.Checks.{Check, and_then}
use Rattle.codes.specs.Meaning.{Meaning, Message, Sound}
use Rattle.codes.specs.Words.{wrong, missing}
use Rattle.codes.specs.declared.fault.CodeFault.TheVariants.{Reach}
use Rattle.codes.proofs.Passed.{numbers-below, below-numbers}
use Rattle.carrier.specs.declared.fault.CollectorFault.{CollectorFault}
use Rattle.carrier.specs.declared.fault.CollectorFault.TheVariants.{Code}
use Rattle.carrier.specs.Book.{Book, Call, deliver, strike, read, after, booked, vacant, filled}
use Rattle.carrier.specs.Checks.{fit_check, deliver_check, strike_check, read_check}
use Rattle.carrier.specs.Faults.{number, row as row_of}
use Rattle.carrier.specs.Replies.{Reply, delivered, struck, sheet, unanswered, refused}
use Rattle.carrier.specs.Sheets.{received, marks, row, InReach, wrongs}
use Rattle.carrier.specs.Steps.{Told, Checked, Answered, Run}
use Rattle.carrier.specs.Promise.{At, count, count_pairs, book_at, CountedInReach, EachRow, FirstLost, differs, Fit, Takes, Gives, Right, Reading, ReadAt, Promise}
use Rattle.carrier.proofs.Keeping.{book-keeps, booked-length}
use Rattle.carrier.proofs.Records as records

-- the count of a row
count_head : (n : ℕ) (test : ℕ → Bool) → count (suc n) test ≡ cond (test 0) 1 0 + count n (λ j. test (suc j))
count_head zero test = omega arith
count_head (suc n) test = let h = count_head n test in omega arith

flip : (x : Bool) → cond {A = ℕ} x 0 1 ≡ cond (not x) 1 0
flip true = refl
flip false = refl

wrong_row : (i : ℕ) (b : Book) (ws : List ℕ) → length ws ≡ length b → wrong (received i b) (marks b) ws ≡ count (length b) (λ j. differs (get_or b j None) i (get_or ws j 0))
wrong_row i [] ws e = refl
wrong_row i (o ∷ b) [] e = absurd (omega arith)
wrong_row i (None ∷ b) (w ∷ ws) e =
    let h = wrong_row i b ws (omega arith) in
    let c = count_head (length b) (λ j. differs (get_or (None ∷ b) j None) i (get_or (w ∷ ws) j 0)) in
    omega arith
wrong_row i (Some s ∷ b) (w ∷ ws) e =
    let h = wrong_row i b ws (omega arith) in
    let c = count_head (length b) (λ j. differs (get_or (Some s ∷ b) j None) i (get_or (w ∷ ws) j 0)) in
    let f = flip (eqb (get_or s i 0) w) in
    omega arith

wrong-rows : (m : Meaning) (b : Book) (numbers : List ℕ) (D : ℕ) → length b ≡ m.long → ((i : ℕ) → i < D → length (m.word (row m.dimension i numbers)) ≡ m.long) →
    wrongs m b numbers D ≡ count_pairs D m.long (λ i j. differs (get_or b j None) i (get_or (m.word (row m.dimension i numbers)) j 0))
wrong-rows m b numbers zero l h = refl
wrong-rows m b numbers (suc D) l h =
    let r = wrong-rows m b numbers D l (λ i x. h i (omega arith)) in
    let here = wrong_row D b (m.word (row m.dimension D numbers)) (h D (omega arith) ∙ sym l) in
    let there : count (length b) (λ j. differs (get_or b j None) D (get_or (m.word (row m.dimension D numbers)) j 0)) ≡ count m.long (λ j. differs (get_or b j None) D (get_or (m.word (row m.dimension D numbers)) j 0)) = ap (λ (t : ℕ). count t (λ j. differs (get_or b j None) D (get_or (m.word (row m.dimension D numbers)) j 0))) l in
    omega arith

never : {A : Type 0} (e : ℕ) (f : CollectorFault) → ◌≡◌ {A = Result ℕ CollectorFault} (Err f) (Ok e) → A
never e f h = let z : ◌≡◌ {A = ℕ} 0 1 = cc in absurd (omega arith)

pub reading : (m : Meaning) (D : ℕ) (b : Book) (old : List ℕ) (r : Result ℕ CollectorFault) (numbers : List ℕ) →
    Sound m → length b ≡ m.long → Told m D b old numbers r → Reading m D b old r numbers
reading m D b old (Ok e) numbers law long h =
    let each : EachRow m D b = λ i l. (row m.dimension i numbers, h.0.near i l) in
    let total = wrong-rows m b numbers D long (λ i l. law.word_long (row m.dimension i numbers) (h.0.near i l).message) in
    record {
      returned = (λ p. each, λ p. (e, refl));
      otherwise = λ fails. absurd (fails each);
      unchanged = λ f x. never e f (sym x);
      within = λ d x. h.0;
      alone = λ d x other ne w. ne (h.1 other w);
      counted = λ d x. let y : d ≡ e = cc in y ∙ h.2 ∙ total;
    }
reading m D b old (Err f) numbers law long h = record {
  returned = (λ p. never p.0 f p.1, λ each. absurd (h.3 (each h.0 h.1).0 (each h.0 h.1).1));
  otherwise = λ fails. (let at : row_of f ≡ h.0 = ap row_of h.2 in
      (f, refl, ap number h.2, h.2 ∙ ap (Code Reach) (sym at), subst (FirstLost m D b) (sym at) (record { inside = h.1; lost = λ p. h.3 p.0 p.1; before = h.4 })));
  unchanged = λ g x. h.5;
  within = λ d x. never d f x;
  alone = λ d x other ne w. never d f x;
  counted = λ d x. never d f x;
}

-- the missing strips
missing-places : (b : Book) → missing (marks b) ≡ count (length b) (λ j. vacant (get_or b j None))
missing-places [] = refl
missing-places (None ∷ b) = let h = missing-places b in let c = count_head (length b) (λ j. vacant (get_or (None ∷ b) j None)) in omega arith
missing-places (Some s ∷ b) = let h = missing-places b in let c = count_head (length b) (λ j. vacant (get_or (Some s ∷ b) j None)) in omega arith

in_reach : (m : Meaning) (b : Book) (i : ℕ) (message : List ℕ) → Sound m → length b ≡ m.long → InReach m b i message ↔ CountedInReach m b i message
in_reach m b i message law long = (
  λ h. let e = same h.message in let n = h.near in record { numbers = h.message; near = omega arith },
  λ h. let e = same h.numbers in let n = h.near in record { message = h.numbers; near = omega arith },
)
  where
    gone : missing (marks b) ≡ count m.long (λ j. vacant (get_or b j None))
    gone = missing-places b ∙ ap (λ (t : ℕ). count t (λ j. vacant (get_or b j None))) long

    same : Message m message → (wrong (received i b) (marks b) (m.word message) ≡ count m.long (λ j. differs (get_or b j None) i (get_or (m.word message) j 0))) × (missing (marks b) ≡ count m.long (λ j. vacant (get_or b j None)))
    same h = (wrong_row i b (m.word message) (law.word_long message h ∙ sym long) ∙ ap (λ (t : ℕ). count t (λ j. differs (get_or b j None) i (get_or (m.word message) j 0))) long, gone)

is_vacant : (o : Option (List ℕ)) → vacant o ≡ true → o ≡ None
is_vacant None e = refl
is_vacant (Some s) e = let z : ◌≡◌ {A = ℕ} 0 1 = cc in absurd (omega arith)

is_filled : (o : Option (List ℕ)) → filled o ≡ true → (strip : List ℕ) × (o ≡ Some strip)
is_filled None e = let z : ◌≡◌ {A = ℕ} 0 1 = cc in absurd (omega arith)
is_filled (Some s) e = (s, refl)

fitted : (m : Meaning) (D : ℕ) → fit_check m D ≡ Ok tt → Fit m D
fitted m D e = let f = records.fits m.fitness D e in record { fits = f.code; shallow = f.low; deep = f.high }

pub fit-passes : (m : Meaning) (D : ℕ) → Fit m D → fit_check m D ≡ Ok tt
fit-passes m D h = records.fit-both m.fitness D h.fits h.shallow h.deep

-- a delivery is accepted where the book takes it, and a strike where the place holds a strip
accepted : (m : Meaning) (D : ℕ) (b : Book) (place : ℕ) (strip : List ℕ) → (deliver_check m D b place strip ≡ Ok tt) ↔ Takes m D b place strip
accepted m D b place strip = (
  λ e. let p = records.accepted (fit_check m D) m.long D m.order b place strip e in
      record { fit = fitted m D p.fits; inside = p.within; empty = is_vacant (get_or b place None) p.free; long = p.long; below = numbers-below m.order 0 strip p.below },
  λ h. records.deliver-ends m D b place strip false (fit-passes m D h.fit) h.inside h.long (below-numbers m.order 0 strip h.below) (ap filled h.empty),
)

removed : (m : Meaning) (D : ℕ) (b : Book) (place : ℕ) → (strike_check m D b place ≡ Ok tt) ↔ Gives m D b place
removed m D b place = (
  λ e. let p = records.removed (fit_check m D) m.long b place e in
      let s = is_filled (get_or b place None) p.held in
      record { fit = fitted m D p.fits; inside = p.within; strip = s.0; holds = s.1 },
  λ h. records.strike-ends m D b place true (fit-passes m D h.fit) h.inside (ap filled h.holds),
)

-- the answer at a place of a run
record AnswerAt (m : Meaning) (need D : ℕ) (b : Book) (cs : List Call) (answers : List Reply) (i : ℕ) (c : Call) : Type 0 where
  answer : Reply
  stands : At i answers answer
  says : Answered m need D (booked m.long D m.order b (take i cs)) c answer

answer_at : (m : Meaning) (need D : ℕ) (b : Book) (cs : List Call) (answers : List Reply) → Run m need D b cs answers → (i : ℕ) (c : Call) → At i cs c → AnswerAt m need D b cs answers i c
answer_at m need D b [] answers run i c at = absurd at
answer_at m need D b (x ∷ xs) [] run i c at = absurd run
answer_at m need D b (x ∷ xs) (y ∷ ys) run zero c at = record { answer = y; stands = refl; says = subst (λ (z : Call). Answered m need D b z y) at run.0 }
answer_at m need D b (x ∷ xs) (y ∷ ys) run (suc i) c at =
    let r = answer_at m need D (after m.long D m.order b x) xs ys run.1 i c at in
    record { answer = r.answer; stands = r.stands; says = r.says }

as_many : (m : Meaning) (need D : ℕ) (b : Book) (cs : List Call) (answers : List Reply) → Run m need D b cs answers → length answers ≡ length cs
as_many m need D b [] [] run = refl
as_many m need D b [] (y ∷ ys) run = absurd run
as_many m need D b (x ∷ xs) [] run = absurd run
as_many m need D b (x ∷ xs) (y ∷ ys) run = ap suc (as_many m need D (after m.long D m.order b x) xs ys run.1)

-- the checks of a read pass exactly where the lengths are right
pub right_passes : (m : Meaning) (need D : ℕ) (page scratch : List ℕ) → Right m need D page scratch → read_check m need D (length page) (length scratch) ≡ Ok tt
right_passes m need D page scratch r = go (fit_check m D) (length page) (length scratch) m.dimension (fit-passes m D r.fit) r.page_long r.scratch_long
  where
    go : (f : Check CollectorFault) (asked lent k : ℕ) → f ≡ Ok tt → asked ≡ D * k → need ≤ lent → and_then f (records.reading D k need asked lent) ≡ Ok tt
    go f asked lent k e c d = rw e (grind (arith, nat_tests))

pub passes_right : (m : Meaning) (need D : ℕ) (page scratch : List ℕ) → read_check m need D (length page) (length scratch) ≡ Ok tt → Right m need D page scratch
passes_right m need D page scratch e =
    let p = records.passed (fit_check m D) D m.dimension need (length page) (length scratch) e in
    record { fit = fitted m D p.fits; page_long = p.long; scratch_long = p.lends }

passed : (c : Check CollectorFault) (m : Meaning) (need D : ℕ) (b : Book) (old new scr scr' : List ℕ) (r : Result ℕ CollectorFault) → c ≡ Ok tt → Checked c m need D b old new scr scr' r → Told m D b old new r × (drop need scr' ≡ drop need scr)
passed (Ok u) m need D b old new scr scr' r e h = h
passed (Err f) m need D b old new scr scr' r e h = let z : ◌≡◌ {A = ℕ} 0 1 = cc in absurd (omega arith)

module _ (m : Meaning) (need D : ℕ) (cs : List Call) (answers : List Reply) (law : m.fitness ≡ Ok tt → Sound m)
    (run : Run m need D (replicate m.long None) cs answers) where
  long-at : (i : ℕ) → length (book_at m D cs i) ≡ m.long
  long-at i = booked-length m.long D m.order (replicate m.long None) (take i cs) ∙ length-replicate m.long None

  reads_at : (i : ℕ) (page scratch : List ℕ) → Right m need D page scratch → (a : Reply) → At i answers a → Answered m need D (book_at m D cs i) (read page scratch) a →
      ReadAt m need D (book_at m D cs i) page scratch i answers
  reads_at i page scratch right (delivered p s r) at h = absurd h
  reads_at i page scratch right (struck p r) at h = absurd h
  reads_at i page scratch right unanswered at h = absurd h
  reads_at i page scratch right (sheet r new scratch') at h =
      let b = book_at m D cs i in
      let t = passed (read_check m need D (length page) (length scratch)) m need D b page new scratch scratch' r (right_passes m need D page scratch right) h.0 in
      record { result = r; numbers = new; scratch' = scratch'; answer = at; reading = reading m D b page r new (law right.fit.fits) (long-at i) t.0; as_long = h.1; rest = t.1 }

  declined-at : (i : ℕ) (page scratch : List ℕ) (f : CollectorFault) → read_check m need D (length page) (length scratch) ≡ Err f → (a : Reply) → At i answers a → Answered m need D (book_at m D cs i) (read page scratch) a →
      At i answers (sheet (Err f) page scratch)
  declined-at i page scratch f e (delivered p s r) at h = absurd h
  declined-at i page scratch f e (struck p r) at h = absurd h
  declined-at i page scratch f e unanswered at h = absurd h
  declined-at i page scratch f e (sheet r new scratch') at h =
      let b = book_at m D cs i in
      let h' : Checked (Err f) m need D b page new scratch scratch' r = subst (λ (c : Check CollectorFault). Checked c m need D b page new scratch scratch' r) e h.0 in
      let same : sheet r new scratch' ≡ sheet (Err f) page scratch = (let a = h'.0 in let b = h'.1 in let c = h'.2 in cc) in
      subst (At i answers) same at

  turned_down : (i : ℕ) (page scratch : List ℕ) (c : Check CollectorFault) → read_check m need D (length page) (length scratch) ≡ c → At i cs (read page scratch) → (Right m need D page scratch → ⊥) →
      (f : CollectorFault) × (read_check m need D (length page) (length scratch) ≡ Err f) × At i answers (sheet (Err f) page scratch)
  turned_down i page scratch (Ok u) e at unfit = absurd (unfit (passes_right m need D page scratch e))
  turned_down i page scratch (Err f) e at unfit = let r = answer_at m need D (replicate m.long None) cs answers run i (read page scratch) at in (f, e, declined-at i page scratch f e r.answer r.stands r.says)

  delivers-at : (i place : ℕ) (strip : List ℕ) (a : Reply) → At i answers a → Answered m need D (book_at m D cs i) (deliver place strip) a →
      At i answers (delivered place strip (deliver_check m D (book_at m D cs i) place strip))
  delivers-at i place strip (delivered p s r) at h =
      let same : delivered p s r ≡ delivered place strip (deliver_check m D (book_at m D cs i) place strip) = (let a = h.0 in let b = h.1 in let c = h.2 in cc) in
      subst (At i answers) same at
  delivers-at i place strip (struck p r) at h = absurd h
  delivers-at i place strip (sheet r new scratch') at h = absurd h
  delivers-at i place strip unanswered at h = absurd h

  strikes-at : (i place : ℕ) (a : Reply) → At i answers a → Answered m need D (book_at m D cs i) (strike place) a →
      At i answers (struck place (strike_check m D (book_at m D cs i) place))
  strikes-at i place (delivered p s r) at h = absurd h
  strikes-at i place (struck p r) at h =
      let same : struck p r ≡ struck place (strike_check m D (book_at m D cs i) place) = (let a = h.0 in let b = h.1 in cc) in
      subst (At i answers) same at
  strikes-at i place (sheet r new scratch') at h = absurd h
  strikes-at i place unanswered at h = absurd h

  unfit-at : (i : ℕ) (c : Call) (f : CollectorFault) → fit_check m D ≡ Err f → (a : Reply) → At i answers a → Answered m need D (book_at m D cs i) c a → At i answers (refused f c)
  unfit-at i (deliver place strip) f e a at h = subst (λ (x : Check CollectorFault). At i answers (delivered place strip x)) (ap (λ (x : Check CollectorFault). and_then x (records.delivery m.long D m.order (book_at m D cs i) place strip)) e) (delivers-at i place strip a at h)
  unfit-at i (strike place) f e a at h = subst (λ (x : Check CollectorFault). At i answers (struck place x)) (ap (λ (x : Check CollectorFault). and_then x (records.striking m.long (book_at m D cs i) place)) e) (strikes-at i place a at h)
  unfit-at i (read page scratch) f e a at h = declined-at i page scratch f (ap (λ (x : Check CollectorFault). and_then x (records.reading D m.dimension need (length page) (length scratch))) e) a at h

  pub promised : Promise m need D cs answers
  promised = record {
    as_many = as_many m need D (replicate m.long None) cs answers run;
    kept = λ i. book-keeps m.long D m.order (take i cs);
    reach = λ fits i j message. in_reach m (book_at m D cs i) j message (law fits) (long-at i);
    reads = λ i page scratch at right. let r = answer_at m need D (replicate m.long None) cs answers run i (read page scratch) at in reads_at i page scratch right r.answer r.stands r.says;
    declined = λ i page scratch at unfit. turned_down i page scratch (read_check m need D (length page) (length scratch)) refl at unfit;
    delivers = λ i place strip at. let r = answer_at m need D (replicate m.long None) cs answers run i (deliver place strip) at in delivers-at i place strip r.answer r.stands r.says;
    accepted = λ i place strip. accepted m D (book_at m D cs i) place strip;
    strikes = λ i place at. let r = answer_at m need D (replicate m.long None) cs answers run i (strike place) at in strikes-at i place r.answer r.stands r.says;
    removed = λ i place. removed m D (book_at m D cs i) place;
    unfit = λ f e i c at. let r = answer_at m need D (replicate m.long None) cs answers run i c at in unfit-at i c f e r.answer r.stands r.says;
  }
