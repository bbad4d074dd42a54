use Rattle.std.proofs.Common.{◌≡◌, ℕ, ◌+◌, ◌<◌, ◌≤◌, List, [], ◌∷◌, ◌++◌, map, length, get_or, take, drop, set, replicate, None, Ok, sym, refl, ap, ◌∙◌, subst, arith, take_all, drop-set-lt}
use mathlib.Core.List.{map-append}
use Rattle.std.proofs.lemmas.List.{map_more, take_more_set, drop_more}
use Rattle.piles.proofs.Kept.{codes_kept}
use Rattle.carrier.specs.Book.{Call, after, booked}
use Rattle.carrier.specs.Checks.{fit_check}
use Rattle.carrier.specs.Records.{records_of, records, BookBelow}
use Rattle.carrier.specs.Replies.{asked, reply, Reply}
use Rattle.carrier.specs.Steps.{Answered, Run}
use Rattle.carrier.proofs.Records.{fits}
use Rattle.carrier.proofs.Promised.{promised}
use Rattle.carrier.proofs.Unique.{run_step, fresh_below, fresh_book}
use Rattle.carrier.proofs.run.run.Goals as goal

pub loop-call-init : goal.loop-call-init
loop-call-init g c =
    let s = c.new-collector.result in
    let i = g.C.Issuer in
    let m = i.meaning s.code in
    let e = c.new-collector.ensures.empty in (
      refl,
      refl,
      subst (λ t. BookBelow m.order s.depth (records m.long s.depth t)) (sym e) (fresh_below m.order s.depth m.long 128),
      (λ ok. let law = g.met.C.Issuer.sound s.code (fits m.fitness s.depth ok).code in
          ap (records m.long s.depth) e ∙ fresh_book s.depth m.long 128 law.length_high),
      tt,
      refl,
    )

pub loop-call-preserved : goal.loop-call-preserved
loop-call-preserved g c =
    let i = g.C.Issuer in
    let code = c.new-collector.result.code in
    let D = c.new-collector.result.depth in
    let m = i.meaning code in
    let n = m.long in
    let q = m.order in
    let k = g.C.Code.need code in
    let inv = c.loop-call.invariant in
    let now' = c.step.new.collector in
    let was = c.loop-call.collector in
    let calls = c.args.calls.now in
    let at = c.loop-call.call-index in
    let d = c.call-item.result in
    let item = get_or c.loop-call.calls at d in
    let done = c.step.new.call in
    let a = reply done in
    let st = c.step.ensures in
    let inside : at < length calls = c.loop-call-test.true in
    let inside' : at < length c.loop-call.calls = omega (arith, c.loop-call.auto.calls) in
    let P : g.row.C.Denot → ℕ → Type 0 = λ x d. Answered (i.meaning x) (g.C.Code.need x) d (records_of i was) (asked item) a
    × (fit_check (i.meaning x) d ≡ Ok tt → records_of i now' ≡ after (i.meaning x).long d (i.meaning x).order (records_of i was) (asked item))
    × BookBelow (i.meaning x).order d (records_of i now') in
    let f0 : P was.code was.depth = (st.answer, st.book, st.below) in
    let f1 : P code was.depth = subst (λ x. P x was.depth) inv.0 f0 in
    let f2 : P code D = subst (λ d. P code d) inv.1 f1 in
    let cs = map asked (take at calls) in
    let as' = map reply (take at c.loop-call.calls) in
    let here = drop_more c.loop-call.calls at d inside' in
    let there = drop_more calls at d inside in
    let both = inv.5 in
    let same : get_or calls at d ≡ item = cc in
    let rest : drop (at + 1) c.loop-call.calls ≡ drop (at + 1) calls = cc in
    let more : map asked (take (at + 1) calls) ≡ cs ++ (asked item ∷ []) = map_more asked calls at d inside ∙ ap (λ x. cs ++ (asked x ∷ [])) same in
    let push : map reply (take (at + 1) (set c.loop-call.calls at done)) ≡ as' ++ (a ∷ []) = ap (map reply) (take_more_set c.loop-call.calls at done inside') ∙ map-append reply (take at c.loop-call.calls) (done ∷ []) in
    let r = run_step m k D (replicate n None) (records_of i was) (records_of i now') cs as' (asked item) a inv.3 inv.4 f2.0 f2.1 in (
      st.code ∙ inv.0,
      st.depth ∙ inv.1,
      f2.2,
      subst (λ (x : List Call). fit_check m D ≡ Ok tt → records_of i now' ≡ booked n D q (replicate n None) x) (sym more) r.0,
      subst (λ (x : List Call). Run m k D (replicate n None) x (map reply (take (at + 1) (set c.loop-call.calls at done)))) (sym more) (subst (λ (y : List Reply). Run m k D (replicate n None) (cs ++ (asked item ∷ [])) y) (sym push) r.1),
      drop-set-lt (at + 1) c.loop-call.calls at done (omega arith) ∙ rest,
    )

pub returns-clause-promise : goal.returns-clause-promise
returns-clause-promise g c =
    let i = g.C.Issuer in
    let inv = c.loop-call.invariant in
    let calls = c.args.calls.now in
    let end = c.loop-call-test.false in
    let all : map asked (take c.loop-call.call-index calls) ≡ map asked calls = ap (map asked) (take_all c.loop-call.call-index calls end) in
    let end' : length c.loop-call.calls ≤ c.loop-call.call-index = omega (arith, c.loop-call.auto.calls) in
    let all' : map reply (take c.loop-call.call-index c.loop-call.calls) ≡ map reply c.loop-call.calls = ap (map reply) (take_all c.loop-call.call-index c.loop-call.calls end') in
    let made = c.new-collector.result in
    let R : g.row.C.Denot → ℕ → List Call → List Reply → Type 0 = λ x d cs rs. Run (i.meaning x) (g.C.Code.need x) d (replicate (i.meaning x).long None) cs rs in
    let r1 : R made.code made.depth (map asked calls) (map reply (take c.loop-call.call-index c.loop-call.calls)) =
    subst (λ (x : List Call). R made.code made.depth x (map reply (take c.loop-call.call-index c.loop-call.calls))) all inv.4 in
    let r2 : R made.code made.depth (map asked calls) (map reply c.loop-call.calls) = subst (λ (x : List Reply). R made.code made.depth (map asked calls) x) all' r1 in
    let r3 = subst (λ (d : ℕ). R made.code d (map asked calls) (map reply c.loop-call.calls)) c.new-collector.ensures.depth r2 in
    let r4 = subst (λ (x : g.row.C.Denot). R x c.args.depth (map asked calls) (map reply c.loop-call.calls)) c.new-collector.ensures.code r3 in
    let keeps = g.met.C.Issuer.sound c.args.code in
    promised (i.meaning c.args.code) (g.C.Code.need c.args.code) c.args.depth (map asked calls) (map reply c.loop-call.calls) keeps r4

pub returns-clause-codes : goal.returns-clause-codes
returns-clause-codes g c = codes_kept
