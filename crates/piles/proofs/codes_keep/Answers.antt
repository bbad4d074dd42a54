use Rattle.piles.proofs.Kept.{codes_kept}
use Rattle.piles.proofs.codes_keep.Goals as goal

pub returns : goal.returns
returns c = codes_kept
