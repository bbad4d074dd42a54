use Rattle.std.proofs.Common.{refl}
use Rattle.worked.proofs.Worked.{worked}
use Rattle.worked.proofs.examples_hold.Goals as goal

pub returns : goal.returns
returns c = record { hold = worked; count = refl }
