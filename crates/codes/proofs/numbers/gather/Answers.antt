use Rattle.std.proofs.Common.{arith}
use Rattle.codes.proofs.Lists.{filled-by}
use Rattle.codes.proofs.numbers.gather.Goals as goal

pub returns : goal.returns
returns g c = filled-by 128 (g.P.Numbers.listed c.args.list.now) c.loop-i.number-items c.loop-i.invariant.0 (λ k h. c.loop-i.invariant.1 k (omega arith))
