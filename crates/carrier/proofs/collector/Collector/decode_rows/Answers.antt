use Rattle.std.proofs.Common.{◌≡◌, ℕ, ◌+◌, ◌-◌, ◌*◌, ◌≤◌, length, ap, ◌∙◌, arith}
use Rattle.std.proofs.lemmas.Result.{err_from_is_err_and}
use Rattle.carrier.specs.declared.fault.CollectorFault.TheVariants.{Code}
use Rattle.carrier.specs.Records.{meaning_of, records_of, fitness_of}
use Rattle.carrier.specs.Sheets.{row}
use Rattle.carrier.proofs.Records.{fits, passed}
use Rattle.carrier.proofs.Rows.{next_within, rows_more, row-few}
use Rattle.carrier.proofs.collector.Collector.decode_rows.Goals as goal

pub returns-in_err-wrong-clause-rows : goal.returns-in_err-wrong-clause-rows
returns-in_err-wrong-clause-rows g c =
    let s = c.args.self.now in
    let m = meaning_of g.C.Issuer s in
    let p = err_from_is_err_and c.from_residual.result c.from_residual.ensures.1 in
    let a = c.in_err-wrong.ensures.answer in
    let inv = c.loop-row.invariant in
    rw (p.1, p.2) (record {
      at = c.loop-row.row;
      inside = c.loop-row-test.true;
      why = c.in_err-wrong.field-0.0.fault;
      fault = ap (λ (t : ℕ). Code c.in_err-wrong.field-0.0.fault t) a.0;
      lost = a.1;
      before = λ j h. (row m.dimension j c.loop-row.sheet, inv.2 j h);
    })

pub loop-row-preserved : goal.loop-row-preserved
loop-row-preserved g c =
    let s = c.args.self.now in
    let i = g.C.Issuer in
    let m = meaning_of i s in
    let k = m.dimension in
    let at = c.loop-row.row in
    let p = passed (fitness_of i s) s.depth k (g.C.Code.need s.code) (length c.args.sheet.now) (length c.args.scratch.now) c.requires.checked in
    let law = g.met.C.Issuer.sound s.code (fits m.fitness s.depth p.fits).code in
    let a = c.in_ok-wrong.ensures.answer in
    let inv = c.loop-row.invariant in
    let few = row-few at m.long s.depth s.table.strips (m.word c.decode_row.new.message) law.length_high in
    let e = c.dimension-long.ensures in
    let w = next_within at s.depth k c.loop-row-test.true in
    let l = p.long in
    let kept = c.loop-row.auto.sheet in
    let size : (at * k + k) - at * k ≡ k = omega arith in
    let in' : at * k + k ≤ length c.loop-row.sheet = omega (arith, w, l, kept) in
    let more = rows_more m (records_of i s) at ((at * k + k) - at * k) c.loop-row.sheet c.decode_row.new.message c.loop-row.wrong c.in_ok-wrong.field-0
    in' a.0.message.long size inv.1 inv.2 a.0 a.1 in
    rw e (omega (arith, inv.0, few, a.1), more.0, more.1, c.decode_row.ensures.rest ∙ inv.3)
