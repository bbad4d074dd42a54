use Rattle.std.proofs.Common.{◌≡◌, ℕ, List, length, set, Some, vec_items, sym, ap, ◌∙◌, subst, arith, length-take}
use Rattle.std.specs.Vec.{with_items}
use Rattle.std.proofs.lemmas.List.{length-map, with_items_is}
use Rattle.carrier.specs.Checks.{deliver_check, read_check, entered}
use Rattle.carrier.specs.Records.{meaning_of, records_of, fitness_of, BookBelow}
use Rattle.carrier.specs.Steps.{Checked}
use Rattle.carrier.proofs.Books.{after-deliver, deliver-below, strike-below}
use Rattle.carrier.proofs.Records.{fits, passed}
use Rattle.carrier.proofs.Unique.{checked}
use Rattle.carrier.proofs.run.step.Goals as goal

pub returns-in-Deliver-clause-book : goal.returns-in-Deliver-clause-book
returns-in-Deliver-clause-book g c =
    let s = c.args.collector.now in
    let i = g.C.Issuer in
    let m = meaning_of i s in
    let D = s.depth in
    let b = records_of i s in
    let place = c.in-Deliver.place in
    let strip = vec_items c.in-Deliver.strip in
    let e = c.deref.ensures.value in
    let ans : c.deliver.result ≡ deliver_check m D b place strip = c.deliver.ensures.answer ∙ ap (deliver_check m D b place) e in
    let kept : records_of i c.deliver.new.self ≡ entered c.deliver.result (set b place (Some strip)) b =
    c.deliver.ensures.records.records ∙ ap (λ (t : List ℕ). entered c.deliver.result (set b place (Some t)) b) e in
    rw c.in-Deliver.is (λ ok. kept ∙ ap (λ r. entered r (set b place (Some strip)) b) ans ∙ after-deliver (fitness_of i s) m.long D m.order b place strip ok)

pub returns-in-Deliver-clause-below : goal.returns-in-Deliver-clause-below
returns-in-Deliver-clause-below g c =
    let s = c.args.collector.now in
    let i = g.C.Issuer in
    let m = meaning_of i s in
    let b = records_of i s in
    let place = c.in-Deliver.place in
    let strip = c.deref.result.now in
    subst (BookBelow m.order s.depth) (sym c.deliver.ensures.records.records)
    (deliver-below (fitness_of i s) m.long s.depth m.order b place strip c.deliver.result c.deliver.ensures.answer c.requires)

pub returns-in-Strike-clause-below : goal.returns-in-Strike-clause-below
returns-in-Strike-clause-below g c =
    let s = c.args.collector.now in
    let i = g.C.Issuer in
    let m = meaning_of i s in
    subst (BookBelow m.order s.depth) (sym c.strike.ensures.records.records) (strike-below m.order s.depth (records_of i s) c.in-Strike.place c.strike.result c.requires)

pub returns-in-Read-clause-answer : goal.returns-in-Read-clause-answer
returns-in-Read-clause-answer g c =
    let s = c.args.collector.now in
    let i = g.C.Issuer in
    let m = meaning_of i s in
    let D = s.depth in
    let need' = g.C.Code.need s.code in
    let b = records_of i s in
    let old = c.deref_mut.ensures.value in
    let was = c.deref_mut-in-Read.ensures.value in
    let x = c.deref_mut.result.now in
    let y = c.deref_mut-in-Read.result.now in
    let page = vec_items c.in-Read.sheet in
    let scratch = vec_items c.in-Read.scratch in
    let new = c.read.new.sheet in
    let scr = c.read.new.scratch in
    let r = c.read.result in
    let sheet' : vec_items (with_items c.in-Read.sheet new) ≡ new = with_items_is c.in-Read.sheet new (omega (arith, c.read.auto.sheet, c.deref_mut.ensures.len)) in
    let scratch' : vec_items (with_items c.in-Read.scratch scr) ≡ scr = with_items_is c.in-Read.scratch scr (omega (arith, c.read.auto.scratch, c.deref_mut-in-Read.ensures.len)) in
    let P : (old new scratch scratch' : List ℕ) → Type 0 = λ p n t u. Checked (read_check m need' D (length p) (length t)) m need' D b p n t u r in
    let told : P x new y scr =
    checked (read_check m need' D (length x) (length y)) m need' D b x new y scr r
    (λ ok. let p = passed (fitness_of i s) D m.dimension need' (length x) (length y) ok in
    let law = g.met.C.Issuer.sound s.code (fits m.fitness D p.fits).code in
    (law, let full = s.table.full in let high = law.length_high in simp (length-map, length-take) (omega arith)))
    c.requires c.read.ensures.answer in
    let t1 : P page new y scr = subst (λ (v : List ℕ). P v new y scr) old told in
    let t2 : P page new scratch scr = subst (λ (v : List ℕ). P page new v scr) was t1 in
    let t3 = subst (λ (v : List ℕ). P page v scratch scr) (sym sheet') t2 in
    let t4 = subst (λ (v : List ℕ). P page (vec_items (with_items c.in-Read.sheet new)) scratch v) (sym scratch') t3 in
    rw c.in-Read.is (t4, ap length scratch' ∙ c.read.auto.scratch ∙ ap length was)
