use Rattle.std.proofs.Common.{◌≡◌, ◌+◌, ◌≤◌, length, take, drop}
use Rattle.carrier.specs.Records.{meaning_of, records_of}
use Rattle.file.specs.Deliveries.{declined, Brings}
use Rattle.file.proofs.source.deliver_all.Given as goal

abbrev pub invariant-loop-i : goal.invariant-loop-i
invariant-loop-i g l =
    let i = g.C.Issuer in
    let s = l.collector in
    let e = l.initial.collector in
    let ss = g.S.StripSource.strips l.source in
    (length l.buffer ≡ 256)
    × (l.declined ≤ l.i)
    × (s.code ≡ e.code)
    × (s.depth ≡ e.depth)
    × Brings i e s (take l.i ss)
    × (l.declined + declined (meaning_of i s) s.depth (records_of i s) (drop l.i ss) ≡ declined (meaning_of i e) e.depth (records_of i e) ss)
