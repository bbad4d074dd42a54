use Rattle.std.proofs.Common.{◌∙◌, arith}
use Rattle.carrier.proofs.Places.{places_records}
use Rattle.carrier.proofs.collector.Collector.kept.Goals as goal

pub returns : goal.returns
returns g c =
    let s = c.args.self.now in
    let n = (g.C.Issuer.meaning s.code).long in
    c.held.ensures ∙ places_records n s.depth c.min.result s.table.strips s.table.full (omega (arith, c.min.ensures, c.length.ensures))
