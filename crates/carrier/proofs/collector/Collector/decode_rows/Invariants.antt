use Rattle.std.proofs.Common.{◌≡◌, ℕ, ◌*◌, ◌<◌, ◌≤◌, drop}
use Rattle.carrier.specs.Records.{meaning_of, records_of}
use Rattle.carrier.specs.Sheets.{row, InReach, wrongs}
use Rattle.carrier.proofs.collector.Collector.decode_rows.Given as goal

abbrev pub invariant-loop-row : goal.invariant-loop-row
invariant-loop-row g l =
    let i = g.C.Issuer in
    let s = l.self in
    let m = meaning_of i s in
    let b = records_of i s in
    (l.wrong ≤ l.row * 128)
    × (l.wrong ≡ wrongs m b l.sheet l.row)
    × ((j : ℕ) → j < l.row → InReach m b j (row m.dimension j l.sheet))
    × (drop (g.C.Code.need s.code) l.scratch ≡ drop (g.C.Code.need s.code) l.initial.scratch)
