use Rattle.std.proofs.Common.{rules}
use Rattle.std.proofs.iter.runs.Sources.{ranges}
use Rattle.symbols.proofs.multipliers.find_lacking.Goals as goal

pub returns : goal.returns
returns g c = search (rules, ranges)
