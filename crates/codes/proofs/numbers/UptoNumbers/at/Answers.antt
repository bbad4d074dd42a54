use Rattle.std.proofs.Common.{sym, arith}
use Rattle.std.proofs.lemmas.List.{get_or_past}
use Rattle.codes.specs.Lists.{counting}
use Rattle.codes.proofs.Lists.{length-counting, get_or-counting}
use Rattle.codes.proofs.numbers.UptoNumbers.at.Goals as goal

pub returns-then-i-from : goal.returns-then-i-from
returns-then-i-from c = omega (arith, c.from.ensures, get_or-counting 0 c.args.self.now.count c.args.i (omega (arith, c.from.ensures, c.if-i-from.true)))

pub returns-else-i-from : goal.returns-else-i-from
returns-else-i-from c =
    let n = c.args.self.now.count in
    sym (get_or_past (counting 0 n) c.args.i 0 (omega (arith, length-counting 0 n, c.from.ensures, c.if-i-from.false)))
