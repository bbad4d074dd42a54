use Rattle.std.proofs.Common.{arith}
use Rattle.std.proofs.lemmas.Bool.Decides.{nat_tests}
use Rattle.codes.proofs.Steps.{missing-more}
use Rattle.codes.proofs.checks.count_missing.Goals as goal
use Rattle.codes.proofs.checks.count_missing.Goals.{then-mark-ne0, else-mark-ne0}

pub loop-mark-preserved : goal.loop-mark-preserved
loop-mark-preserved c =
    let e = missing-more c.args.marks.now c.loop-mark.mark-index c.loop-mark-test.true in
    elim c.if-mark-ne0.branch [ then-mark-ne0 w ↦ grind (arith, nat_tests) | else-mark-ne0 w ↦ grind (arith, nat_tests) ]
