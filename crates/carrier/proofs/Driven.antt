-- One more call after those that have led to a collector.
use Rattle.std.proofs.Common.{◌≡◌, ℕ, List, [], ◌∷◌, ◌++◌, length, set, replicate, Some, None, Ok, Result, sym, ap, ◌∙◌, subst, arith, length-take}
use Rattle.std.proofs.lemmas.List.{length-map}
use Rattle.fields.specs.Checks.{Check}
use Rattle.codes.specs.Meaning.{Sound}
use Rattle.codes.specs.declared.interface.Code as decoder
use Rattle.codes.specs.declared.interface.Issuer as issuer
use Rattle.carrier.specs.declared.collector.Collector.{Collector}
use Rattle.carrier.specs.declared.fault.CollectorFault.{CollectorFault}
use Rattle.carrier.specs.Book.{Book, Call, deliver, strike, after}
use Rattle.carrier.specs.Checks.{entered}
use Rattle.carrier.specs.Driven.{Follows, Reads}
use Rattle.carrier.specs.Promise.{Fit}
use Rattle.carrier.specs.Records.{meaning_of, records_of, fitness_of, book_of, deliver_answer, strike_answer, read_answer, Left, Delivered, Struck, Read}
use Rattle.carrier.proofs.Books.{after-deliver, after-strike}
use Rattle.carrier.proofs.Promised.{fit-passes, reading, right_passes}
use Rattle.carrier.proofs.Unique.{booked-more, told-run}

pub follows : {X : Type 0} (i : issuer.Ghosts X) (s t : Collector X) (c : Call) (b : Book) → Left i s t b →
    (fitness_of i s ≡ Ok tt → b ≡ after (meaning_of i s).long s.depth (meaning_of i s).order (records_of i s) c) → Follows i s t c
follows {X} i s t c b left step calls held =
    let m = meaning_of i s in
    let Q : X → ℕ → Type 0 = λ x d. Fit (i.meaning x) d → records_of i t ≡ book_of (i.meaning x) d (calls ++ (c ∷ [])) in
    let here : Q s.code s.depth = λ fit.
    left.records ∙ step (fit-passes m s.depth fit) ∙ ap (λ (x : Book). after m.long s.depth m.order x c) (held fit)
    ∙ sym (booked-more m.long s.depth m.order (replicate m.long None) calls c) in
    subst (λ (x : X). Q x t.depth) (sym left.code) (subst (λ (d : ℕ). Q s.code d) (sym left.depth) here)

module _ {X : Type 0} (i : issuer.Ghosts X) (s : Collector X) where
  -- a delivery by its answer and what it changes
  pub delivered-follows : (t : Collector X) (place : ℕ) (strip : List ℕ) (r : Check CollectorFault) → r ≡ deliver_answer i s place strip → Delivered i s t place strip r → Follows i s t (deliver place strip)
  delivered-follows t place strip r answer left =
      let m = meaning_of i s in
      let b = records_of i s in
      let by : Check CollectorFault → Book = λ r. entered r (set b place (Some strip)) b in
      follows i s t (deliver place strip) (by r) left (λ ok. ap by answer ∙ after-deliver (fitness_of i s) m.long s.depth m.order b place strip ok)

  -- a strike by its answer and what it changes
  pub struck-follows : (t : Collector X) (place : ℕ) (r : Check CollectorFault) → r ≡ strike_answer i s place → Struck i s t place r → Follows i s t (strike place)
  struck-follows t place r answer left =
      let m = meaning_of i s in
      let b = records_of i s in
      let by : Check CollectorFault → Book = λ r. entered r (set b place None) b in
      follows i s t (strike place) (by r) left (λ ok. ap by answer ∙ after-strike (fitness_of i s) m.long s.depth m.order b place ok)

  -- a read by what it does, for a code that keeps the law
  pub read-reads : (k : decoder.Ghosts X) (old new scr scr' : List ℕ) (r : Result ℕ CollectorFault) → ((meaning_of i s).fitness ≡ Ok tt → Sound (meaning_of i s)) → Read i k s old new scr scr' r → Reads i k s old new scr r
  read-reads k old new scr scr' r sound answer right calls held =
      let m = meaning_of i s in
      let D = s.depth in
      let b = records_of i s in
      let law = sound right.fit.fits in
      let full = s.table.full in
      let high = law.length_high in
      let long : length b ≡ m.long = simp (length-map, length-take) (omega arith) in
      let same = held right.fit in
      reading m D (book_of m D calls) old r new law (ap length (sym same) ∙ long)
      (told-run (read_answer i k s (length old) (length scr)) m (k.need s.code) D b calls old new scr scr' r (λ _. (law, long)) answer (right_passes m (k.need s.code) D old scr right) same)
