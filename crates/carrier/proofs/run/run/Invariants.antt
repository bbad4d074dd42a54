use Rattle.std.proofs.Common.{◌≡◌, map, take, drop, replicate, None, Ok}
use Rattle.carrier.specs.Book.{booked}
use Rattle.carrier.specs.Checks.{fit_check}
use Rattle.carrier.specs.Records.{records_of, BookBelow}
use Rattle.carrier.specs.Replies.{asked, reply}
use Rattle.carrier.specs.Steps.{Run}
use Rattle.carrier.proofs.run.run.Given as goal

abbrev pub invariant-loop-call : goal.invariant-loop-call
invariant-loop-call g l =
    let i = g.C.Issuer in
    let code = l.initial.collector.code in
    let D = l.initial.collector.depth in
    let m = i.meaning code in
    let calls = map asked (take l.call-index l.initial.calls) in
    let b = records_of i l.collector in
    (l.collector.code ≡ code)
    × (l.collector.depth ≡ D)
    × BookBelow m.order D b
    × (fit_check m D ≡ Ok tt → b ≡ booked m.long D m.order (replicate m.long None) calls)
    × Run m (g.C.Code.need code) D (replicate m.long None) calls (map reply (take l.call-index l.calls))
    × (drop l.call-index l.calls ≡ drop l.call-index l.initial.calls)
