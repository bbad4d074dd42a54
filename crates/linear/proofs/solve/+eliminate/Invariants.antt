use Rattle.std.proofs.Common.{length}
use Rattle.linear.proofs.solve.+eliminate.Given as goal

abbrev pub decreases-eliminate : goal.decreases-eliminate
decreases-eliminate g l = length l.rows.now
