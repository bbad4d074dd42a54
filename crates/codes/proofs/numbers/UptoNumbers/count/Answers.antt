use Rattle.std.proofs.Common.{sym, ◌∙◌}
use Rattle.codes.proofs.Lists.{length-counting}
use Rattle.codes.proofs.numbers.UptoNumbers.count.Goals as goal

pub returns : goal.returns
returns c = c.from.ensures ∙ sym (length-counting 0 c.args.self.now.count)
