-- Strips delivered one after another.
use Rattle.std.proofs.Common.{◌≡◌, ℕ, zero, suc, ◌+◌, ◌*◌, ◌<◌, Bool, cond, ◌⊎◌, List, [], ◌∷◌, ◌++◌, map, length, get_or, take, drop, set, replicate, Some, None, Ok, Err, sym, refl, ap, ◌∙◌, subst, inl, inr, append_assoc, arith}
use Rattle.std.proofs.ByRecursion.{All-get_or}
use Rattle.std.proofs.lemmas.List.{drop_more, get_or-drop, append-nil, map_more}
use Rattle.std.specs.List.{flat_map, AllByRecursion}
use Rattle.std.specs.Result.{is_err}
use Rattle.fields.specs.Checks.{Check, and_then}
use Rattle.codes.specs.Meaning.{Meaning}
use Rattle.codes.specs.declared.interface.Issuer as issuer
use Rattle.carrier.specs.Book.{Book, Call, after}
use Rattle.carrier.specs.Checks.{fit_check, deliver_check, entered}
use Rattle.carrier.specs.Driven.{Holds, Follows}
use Rattle.carrier.specs.Records.{meaning_of, records_of, deliver_answer, Delivered}
use Rattle.carrier.specs.declared.collector.Collector.{Collector}
use Rattle.carrier.specs.declared.fault.CollectorFault.{CollectorFault}
use Rattle.carrier.proofs.Books.{after-deliver}
use Rattle.carrier.proofs.Records.{delivery, fits}
use Rattle.file.specs.Deliveries.{brought, refused, declined, Brings}
use Rattle.file.specs.Form.{Strip, strip, two, numbers_in}
use Rattle.file.proofs.Forms.{length_two, numbers_of}

outcome : (c : Check CollectorFault) → (c ≡ Ok tt) ⊎ ((f : CollectorFault) × (c ≡ Err f))
outcome (Ok u) = inl refl
outcome (Err f) = inr (f, refl)

-- an unfit collector declines all, whatever its book
declined-any : (M : Meaning) (D : ℕ) (f : CollectorFault) → fit_check M D ≡ Err f → (b b' : Book) (ss : List Strip) → declined M D b ss ≡ declined M D b' ss
declined-any M D f e b b' [] = refl
declined-any M D f e b b' (s ∷ ss) =
    let here : (x : Book) → refused (deliver_check M D x s.place s.numbers) ≡ 1 = λ x. ap (λ (c : Check CollectorFault). refused (and_then c (delivery M.long D M.order x s.place s.numbers))) e in
    let there = declined-any M D f e (after M.long D M.order b (brought s)) (after M.long D M.order b' (brought s)) ss in
    omega (arith, here b, here b', there)

-- the records after a delivery stand for the book after it
pub declined-after : (M : Meaning) (D : ℕ) (b : Book) (s : Strip) (ss : List Strip) →
    declined M D (entered (deliver_check M D b s.place s.numbers) (set b s.place (Some s.numbers)) b) ss ≡ declined M D (after M.long D M.order b (brought s)) ss
declined-after M D b s ss =
    elim (outcome (fit_check M D)) [
      | inl e ↦ ap (λ (x : Book). declined M D x ss) (after-deliver (fit_check M D) M.long D M.order b s.place s.numbers e)
      | inr p ↦ declined-any M D p.0 p.1 (entered (deliver_check M D b s.place s.numbers) (set b s.place (Some s.numbers)) b) (after M.long D M.order b (brought s)) ss
    ]

pub refused_is : (c : Check CollectorFault) (b : Bool) → is_err c ≡ b → refused c ≡ cond b 1 0
refused_is (Ok u) b h = ap (λ (x : Bool). cond x 1 0) h
refused_is (Err f) b h = ap (λ (x : Bool). cond x 1 0) h

-- one more strip: the count of what is declined from there on
module _ {X : Type 0} (i : issuer.Ghosts X) (s t : Collector X) (ss : List Strip) (at : ℕ) (r : Check CollectorFault) where
  abbrev here : Strip
  here = get_or ss at (strip 0 [])

  pub declined-more : at < length ss → r ≡ deliver_answer i s here.place here.numbers → Delivered i s t here.place here.numbers r →
      declined (meaning_of i s) s.depth (records_of i s) (drop at ss) ≡ refused r + declined (meaning_of i t) t.depth (records_of i t) (drop (at + 1) ss)
  declined-more h answer left =
      let M = meaning_of i s in
      let D = s.depth in
      let b = records_of i s in
      let by : Check CollectorFault → Book = λ r. entered r (set b here.place (Some here.numbers)) b in
      let rest = drop (at + 1) ss in
      let moved : declined (meaning_of i t) t.depth (records_of i t) rest ≡ declined M D (by (deliver_answer i s here.place here.numbers)) rest =
      ap (λ (x : X). declined (i.meaning x) t.depth (records_of i t) rest) left.code
      ∙ ap (λ (d : ℕ). declined M d (records_of i t) rest) left.depth
      ∙ ap (λ (x : Book). declined M D x rest) (left.records ∙ ap by answer) in
      ap (declined M D b) (drop_more ss at (strip 0 []) h)
      ∙ ap (λ (c : Check CollectorFault). refused c + declined M D (after M.long D M.order b (brought here)) rest) (sym answer)
      ∙ ap (λ (n : ℕ). refused r + n) (sym (moved ∙ declined-after M D b here rest))

-- one more strip: the calls that have led to the collector
pub brings_more : {X : Type 0} (i : issuer.Ghosts X) (e s t : Collector X) (ss : List Strip) (at : ℕ) → at < length ss → Brings i e s (take at ss) → Follows i s t (brought (get_or ss at (strip 0 []))) → Brings i e t (take (at + 1) ss)
brings_more i e s t ss at h before step calls held =
    let x : Call = brought (get_or ss at (strip 0 [])) in
    let P : List Call → Type 0 = λ cs. Holds i t cs in
    subst P (append_assoc calls (map brought (take at ss)) (x ∷ []) ∙ ap (λ (cs : List Call). calls ++ cs) (sym (map_more brought ss at (strip 0 []) h)))
    (step (calls ++ map brought (take at ss)) (before calls held))

-- a new collector's records, or an unfit one's
pub declined-fresh : {X : Type 0} (i : issuer.Ghosts X) (s : Collector X) (ss : List Strip) → Holds i s [] → declined (meaning_of i s) s.depth (records_of i s) ss ≡ declined (meaning_of i s) s.depth (replicate (meaning_of i s).long None) ss
declined-fresh i s ss empty =
    let M = meaning_of i s in
    elim (outcome (fit_check M s.depth)) [
      | inl e ↦ (let p = fits M.fitness s.depth e in ap (λ (x : Book). declined M s.depth x ss) (empty record { fits = p.code; shallow = p.low; deep = p.high }))
      | inr p ↦ declined-any M s.depth p.0 p.1 (records_of i s) (replicate M.long None) ss
    ]

pub get_or-numbers_in : (D : ℕ) (bs : List ℕ) (k : ℕ) → k < D → get_or (numbers_in D bs) k 0 ≡ 256 * get_or bs (2 * k) 0 + get_or bs (2 * k + 1) 0
get_or-numbers_in zero bs k h = absurd (let z : ⊥ = omega arith in z)
get_or-numbers_in (suc D) bs zero h = refl
get_or-numbers_in (suc D) bs (suc k) h =
    let less : k < D = omega arith in
    let a : get_or (drop 2 bs) (2 * k) 0 ≡ get_or bs (2 * suc k) 0 = get_or-drop 2 bs (2 * k) 0 ∙ ap (λ m. get_or bs m 0) (let z : 2 + 2 * k ≡ 2 * suc k = omega arith in z) in
    let b : get_or (drop 2 bs) (2 * k + 1) 0 ≡ get_or bs (2 * suc k + 1) 0 = get_or-drop 2 bs (2 * k + 1) 0 ∙ ap (λ m. get_or bs m 0) (let z : 2 + (2 * k + 1) ≡ 2 * suc k + 1 = omega arith in z) in
    get_or-numbers_in D (drop 2 bs) k less ∙ (let z : 256 * get_or (drop 2 bs) (2 * k) 0 + get_or (drop 2 bs) (2 * k + 1) 0 ≡ 256 * get_or bs (2 * suc k) 0 + get_or bs (2 * suc k + 1) 0 = omega arith in z)

pub fetched : (ss : List Strip) (D i place : ℕ) (bytes : List ℕ) (d : Strip) → AllByRecursion (λ s. length s.numbers ≡ D) ss → i < length ss → place ≡ (get_or ss i d).place → bytes ≡ flat_map two (get_or ss i d).numbers → (length bytes ≡ 2 * D) × (get_or ss i d ≡ strip place (numbers_in D bytes))
fetched ss D i place bytes d deep h p e =
    let x : Strip = get_or ss i d in
    let l : length x.numbers ≡ D = All-get_or (λ s. length s.numbers ≡ D) ss i d h deep in
    let n = length_two x.numbers in
    let back : numbers_in D bytes ≡ x.numbers = ap (numbers_in D) (e ∙ sym (append-nil (flat_map two x.numbers))) ∙ ap (λ k. numbers_in k (flat_map two x.numbers ++ [])) (sym l) ∙ numbers_of x.numbers [] in (
      ap length e ∙ n ∙ ap (λ k. 2 * k) l,
      ap (λ (y : ℕ). strip y x.numbers) (sym p) ∙ ap (λ (y : List ℕ). strip place y) (sym back),
    )
