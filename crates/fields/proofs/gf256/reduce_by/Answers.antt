use Rattle.fields.proofs.Division.{remainder-step}
use Rattle.fields.proofs.gf256.reduce_by.Goals as goal

pub loop-i-preserved : goal.loop-i-preserved
loop-i-preserved c =
    remainder-step c.args.polynomial c.args.x c.loop-i.left c.loop-i.i c.requires c.loop-i-test.true c.loop-i.auto.i c.loop-i.invariant
