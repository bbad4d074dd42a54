use Rattle.std.proofs.Common.{◌≡◌, ◌<◌, length, get_or, replicate, arith}
use lib.ListN.{length-replicate, get_or-replicate}
use Rattle.std.proofs.lemmas.Bool.Decides.{nat_tests}
use Rattle.codes.proofs.Steps.{wrong-more}
use Rattle.repetition.proofs.majority.count_wrong.Goals as goal
use Rattle.repetition.proofs.majority.count_wrong.Goals.{then-mark-eq0+then-received-i, else-mark-eq0, else-mark-eq0-via-then-mark-eq0+else-received-i, else-mark-eq0-via-else-mark-eq0}

pub loop-i-preserved : goal.loop-i-preserved
loop-i-preserved c =
    let i = c.loop-i.i in
    let rs = c.args.received.now in
    let ws = replicate (length rs) c.args.number in
    let b : i < length rs = omega arith in
    let w : length ws ≡ length rs = length-replicate (length rs) c.args.number in
    let x : get_or ws i 0 ≡ c.args.number = get_or-replicate (length rs) i c.args.number 0 b in
    let e = wrong-more rs c.args.marks.now ws i b c.loop-i-test.true (omega arith) in
    elim c.if-mark-eq0.branch [
      | then-mark-eq0+then-received-i w ↦ grind (arith, nat_tests)
      | else-mark-eq0 w ↦ elim w.else-mark-eq0.branch [
        | else-mark-eq0-via-then-mark-eq0+else-received-i w' ↦ grind (arith, nat_tests)
        | else-mark-eq0-via-else-mark-eq0 w' ↦ grind (arith, nat_tests)
      ]
    ]
