use Rattle.std.proofs.Common.{rules, ◌≡◌, length, take, arith, length-take}
use Rattle.std.proofs.lemmas.List.{length-map}
use Rattle.carrier.specs.Records.{meaning_of, records_of}
use Rattle.carrier.proofs.Records.{fits}
use Rattle.carrier.proofs.Rows.{column_row, row_told}
use Rattle.carrier.proofs.collector.Collector.decode_row.Goals as goal

pub returns-clause-answer : goal.returns-clause-answer
returns-clause-answer g c =
    let s = c.args.self.now in
    let i = g.C.Issuer in
    let m = meaning_of i s in
    let n = c.length-long.result in
    let f = fits m.fitness s.depth c.requires.fits in
    let law = g.met.C.Issuer.sound s.code f.code in
    let high = law.length_high in
    let full = s.table.full in
    let wide = c.length-long.ensures in
    let a : length (take n c.column.result.0) ≡ m.long = rw c.column.ensures.numbers (simp (length-take, length-map) (omega arith)) in
    let b : length (take n c.column.result.1) ≡ m.long = rw c.column.ensures.marks (simp (length-take, length-map) (omega arith)) in
    let p = column_row m (g.C.Code.need s.code) s.depth s.table.strips c.args.row n (take n c.column.result.0) (take n c.column.result.1)
    (length c.args.message.now) (length c.args.scratch.now) c.args.message.now c.decode.new.message c.args.scratch.now c.decode.new.scratch c.decode.result
    f.code c.requires.within wide a b c.requires.asked c.requires.lent c.column.ensures.numbers c.column.ensures.marks c.decode.ensures in
    row_told m (records_of i s) c.args.row c.decode.new.message c.decode.result c.map_err.result (λ e f q. search rules) c.map_err.ensures.cases p.0
