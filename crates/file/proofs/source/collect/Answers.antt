use Rattle.std.proofs.Common.{◌≡◌, ℕ, List, [], map, length, drop, replicate, None, Ok, Err, Result, sym, ap, ◌∙◌, subst, arith}
use Rattle.fields.specs.Checks.{Check}
use Rattle.codes.specs.Meaning.{Meaning}
use Rattle.carrier.specs.Book.{Book}
use Rattle.carrier.specs.Driven.{Holds}
use Rattle.carrier.specs.Places.{held_places}
use Rattle.carrier.specs.Records.{meaning_of, records_of, read_answer}
use Rattle.carrier.specs.Sheets.{Done}
use Rattle.carrier.specs.declared.fault.CollectorFault.{CollectorFault}
use Rattle.file.specs.declared.source.Outcome.{Outcome}
use Rattle.file.specs.Deliveries.{brought, declined, Collected}
use Rattle.file.proofs.Delivering.{declined-fresh}
use Rattle.file.proofs.source.collect.Goals as goal

-- what a read does by its checks: the refusal, and the scratch past the need
done_refused : (chk : Check CollectorFault) (M : Meaning) (n D : ℕ) (b : Book) (old new scr scr' : List ℕ) (r : Result ℕ CollectorFault) (f : CollectorFault) → chk ≡ Err f → Done chk M n D b old new scr scr' r → (r ≡ Err f) × (new ≡ old) × (scr' ≡ scr)
done_refused (Ok u) M n D b old new scr scr' r f e d = let z : ◌≡◌ {A = ℕ} 0 1 = cc in absurd (omega arith)
done_refused (Err g) M n D b old new scr scr' r f e d = (let same : g ≡ f = cc in d.0 ∙ ap (λ (x : CollectorFault). Err x) same, d.1, d.2)

done-rest : (chk : Check CollectorFault) (M : Meaning) (n D : ℕ) (b : Book) (old new scr scr' : List ℕ) (r : Result ℕ CollectorFault) → Done chk M n D b old new scr scr' r → drop n scr' ≡ drop n scr
done-rest (Ok u) M n D b old new scr scr' r d = d.1
done-rest (Err g) M n D b old new scr scr' r d = ap (drop n) d.2

pub returns : goal.returns
returns g c =
    let i = g.C.Issuer in
    let k = g.C.Code in
    let ss = g.S.StripSource.strips c.args.source.now in
    let s = c.new-collector.result in
    let t = c.deliver_all-declined.new.collector in
    let all = c.deliver_all-declined.ensures in
    let holds : Holds i t (map brought ss) = all.run [] c.new-collector.ensures.run in
    let old = c.args.sheet.now in
    let new = c.read-wrong.new.sheet in
    let scr = c.args.scratch.now in
    let scr' = c.read-wrong.new.scratch in
    let r = c.read-wrong.result in
    let answer = c.read-wrong.ensures.answer in
    let chk = read_answer i k t (length old) (length scr) in
    let M = meaning_of i t in
    let n = k.need t.code in
    let b = records_of i t in
    let count : c.deliver_all-declined.result ≡ declined M t.depth (replicate M.long None) ss =
    all.declined ∙ declined-fresh i s ss c.new-collector.ensures.run
    ∙ ap (λ x. declined (i.meaning x) s.depth (replicate (i.meaning x).long None) ss) (sym all.code)
    ∙ ap (λ (d : ℕ). declined M d (replicate M.long None) ss) (sym all.depth) in
    let o : Outcome = record { kept = c.kept-kept.result; declined = c.deliver_all-declined.result; wrong = r } in
    let here : Collected M n t.depth ss old new scr scr' o = record {
      kept = λ fit. c.kept-kept.ensures ∙ ap held_places (holds fit);
      declined = count;
      reading = λ right. c.read-wrong.ensures.run right (map brought ss) holds;
      refused = λ f e. done_refused chk M n t.depth b old new scr scr' r f e answer;
      rest = done-rest chk M n t.depth b old new scr scr' r answer;
    } in
    let coded = all.code ∙ c.new-collector.ensures.code in
    let deep = all.depth ∙ c.new-collector.ensures.depth in
    subst (λ (d : ℕ). Collected (i.meaning c.args.code) (k.need c.args.code) d ss old new scr scr' o) deep
    (subst (λ x. Collected (i.meaning x) (k.need x) t.depth ss old new scr scr' o) coded here)
