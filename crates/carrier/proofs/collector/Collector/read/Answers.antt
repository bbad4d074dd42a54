use Rattle.std.proofs.Common.{Ok, rules}
use Rattle.carrier.specs.Records.{Read}
use Rattle.carrier.proofs.Driven.{read-reads}
use Rattle.carrier.proofs.collector.Collector.read.Goals as goal

pub returns-in_err-wrong-clause-run : goal.returns-in_err-wrong-clause-run
returns-in_err-wrong-clause-run g c =
    let s = c.args.self.now in
    let old = c.args.sheet.now in
    let answer : Read g.C.Issuer g.C.Code s old old c.args.scratch.now c.decode_rows.new.scratch c.from_residual-in_err-wrong.result = search rules in
    read-reads g.C.Issuer s g.C.Code old old c.args.scratch.now c.decode_rows.new.scratch c.from_residual-in_err-wrong.result (g.met.C.Issuer.sound s.code) answer

pub returns-clause-run : goal.returns-clause-run
returns-clause-run g c =
    let s = c.args.self.now in
    let answer : Read g.C.Issuer g.C.Code s c.args.sheet.now c.copy_from_slice.new.self c.args.scratch.now c.decode_rows.new.scratch (Ok c.in_ok-wrong.wrong) = search rules in
    read-reads g.C.Issuer s g.C.Code c.args.sheet.now c.copy_from_slice.new.self c.args.scratch.now c.decode_rows.new.scratch (Ok c.in_ok-wrong.wrong) (g.met.C.Issuer.sound s.code) answer
