use Rattle.std.proofs.Common.{None, Ok, Err, sym, refl, ap, ◌∙◌}
use Rattle.carrier.specs.declared.collector.Collector.{Collector}
use Rattle.carrier.specs.Records.{meaning_of, records_of, fitness_of, records, Struck}
use Rattle.carrier.proofs.Driven.{struck-follows}
use Rattle.carrier.proofs.Records.{removed, records-set}
use Rattle.carrier.proofs.collector.Collector.strike.Goals as goal

pub returns-in_err-check_strike-clause-run : goal.returns-in_err-check_strike-clause-run
returns-in_err-check_strike-clause-run g c =
    let s = c.args.self.now in
    struck-follows g.C.Issuer s s c.args.place (Err c.in_err-check_strike.field-0.0) c.in_err-check_strike.ensures (record { code = refl; depth = refl; records = refl })

pub returns : goal.returns
returns g c =
    let s = c.args.self.now in
    let i = g.C.Issuer in
    let m = meaning_of i s in
    let ok = c.in_ok-check_strike.ensures in
    let p = removed (fitness_of i s) m.long (records_of i s) c.args.place (sym ok) in
    let t : Collector g.row.C.Denot = record { code = s.code; depth = s.depth; table = c.clear.new.self } in
    let left : Struck i s t c.args.place (Ok tt) = record {
      code = refl;
      depth = refl;
      records = ap (records m.long s.depth) c.clear.ensures ∙ records-set m.long s.depth s.table.strips c.args.place None p.within;
    } in
    record { answer = ok; records = left; run = struck-follows i s t c.args.place (Ok tt) ok left }
