use Rattle.std.proofs.Common.{refl}
use Rattle.repetition.proofs.Repeats.{repeats}
use Rattle.repetition.proofs.repetition.Repetition.new.Goals as goal

pub returns : goal.returns
returns c = record { meaning = refl; repeats = repeats c.args.order c.args.length; need = refl }
