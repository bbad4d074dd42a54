use Rattle.file.proofs.Apart.{rightly}
use Rattle.file.proofs.theorems.refused_rightly.Goals as goal

pub returns : goal.returns
returns c = rightly
