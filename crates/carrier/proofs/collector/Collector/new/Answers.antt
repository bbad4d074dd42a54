use Rattle.std.proofs.Common.{ap, ◌∙◌}
use Rattle.carrier.specs.Records.{records}
use Rattle.carrier.proofs.Unique.{fresh_book}
use Rattle.carrier.proofs.collector.Collector.new.Goals as goal

pub returns-clause-run : goal.returns-clause-run
returns-clause-run g c fit =
    let m = g.C.Issuer.meaning c.args.code in
    let law = g.met.C.Issuer.sound c.args.code fit.fits in
    ap (records m.long c.args.depth) c.new.ensures ∙ fresh_book c.args.depth m.long 128 law.length_high
