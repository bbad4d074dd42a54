use Rattle.std.proofs.Common.{◌-◌, length, replicate, Ok, Err, sym, refl, ap, ◌∙◌}
use Rattle.carrier.specs.declared.collector.Collector.{Collector}
use Rattle.carrier.specs.Records.{meaning_of, records_of, fitness_of, records, Delivered}
use Rattle.carrier.proofs.Driven.{delivered-follows}
use Rattle.carrier.proofs.Records.{accepted, records-put}
use Rattle.carrier.proofs.collector.Collector.deliver.Goals as goal

pub returns-in_err-check_deliver-clause-run : goal.returns-in_err-check_deliver-clause-run
returns-in_err-check_deliver-clause-run g c =
    let s = c.args.self.now in
    delivered-follows g.C.Issuer s s c.args.place c.args.strip.now (Err c.in_err-check_deliver.field-0.0) c.in_err-check_deliver.ensures (record { code = refl; depth = refl; records = refl })

pub returns : goal.returns
returns g c =
    let s = c.args.self.now in
    let i = g.C.Issuer in
    let m = meaning_of i s in
    let strip = c.args.strip.now in
    let ok = c.in_ok-check_deliver.ensures in
    let p = accepted (fitness_of i s) m.long s.depth m.order (records_of i s) c.args.place strip (sym ok) in
    let t : Collector g.row.C.Denot = record { code = s.code; depth = s.depth; table = c.put.new.self } in
    let left : Delivered i s t c.args.place strip (Ok tt) = record {
      code = refl;
      depth = refl;
      records = ap (records m.long s.depth) c.put.ensures ∙ records-put m.long s.depth s.table.strips c.args.place strip (replicate (16 - length strip) 0) p.within p.long;
    } in
    record { answer = ok; records = left; run = delivered-follows i s t c.args.place strip (Ok tt) ok left }
