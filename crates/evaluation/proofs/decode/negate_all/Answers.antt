use Rattle.std.proofs.Common.{rules}
use Rattle.std.proofs.lemmas.List.Edits.{map_over_more}
use Rattle.linear.specs.Operations.{operations}
use Rattle.evaluation.proofs.decode.negate_all.Goals as goal

pub loop-x-preserved : goal.loop-x-preserved
loop-x-preserved g c = search (rules, map_over_more (operations g.F.Field c.args.f.now).opposite)
