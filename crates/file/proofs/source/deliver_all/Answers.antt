use Rattle.std.proofs.Common.{◌≡◌, ◌+◌, ◌<◌, ◌≤◌, Bool, true, false, cond, length, sym, ◌∙◌, arith, rules}
use Rattle.std.proofs.lemmas.List.{places}
use Rattle.file.specs.Deliveries.{refused}
use Rattle.file.proofs.Delivering.{declined-more, refused_is, brings_more}
use Rattle.file.proofs.source.deliver_all.Goals as goal
use Rattle.file.proofs.source.deliver_all.Goals.{then-is_err, else-is_err}

pub loop-i-preserved : goal.loop-i-preserved
loop-i-preserved g c =
    let i = g.C.Issuer in
    let e = c.args.collector.now in
    let s = c.loop-i.collector in
    let t = c.deliver_one.new.collector in
    let ss = g.S.StripSource.strips c.args.source.now in
    let inv = c.loop-i.invariant in
    let ens = c.deliver_one.ensures in
    let less : c.loop-i.i < length ss = omega (arith, c.count-i-end.ensures, c.loop-i-test.true) in
    let more = declined-more i s t ss c.loop-i.i c.deliver_one.result less ens.answer ens.records in
    let failed : (b : Bool) → c.is_err.result ≡ b → refused c.deliver_one.result ≡ cond b 1 0 = λ b h. refused_is c.deliver_one.result b (sym c.is_err.ensures.value ∙ h) in
    let one : (refused c.deliver_one.result ≤ 1) × (c.if-is_err.declined ≡ c.loop-i.declined + refused c.deliver_one.result) = elim c.if-is_err.branch [
      | then-is_err w ↦ (omega (arith, failed true w.if-is_err.true), omega (arith, w.declined-is, failed true w.if-is_err.true))
      | else-is_err w ↦ (omega (arith, failed false w.if-is_err.false), omega (arith, w.declined-is, failed false w.if-is_err.false))
    ] in (
      (search (rules, places)),
      omega (arith, one.0, one.1, inv.1),
      ens.records.code ∙ inv.2,
      ens.records.depth ∙ inv.3,
      brings_more i e s t ss c.loop-i.i less inv.4 ens.run,
      omega (arith, one.1, more, inv.5),
    )
