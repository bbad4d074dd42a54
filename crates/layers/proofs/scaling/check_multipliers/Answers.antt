use Rattle.std.proofs.Common.{◌<◌, length, arith}
use Rattle.std.proofs.lemmas.Bool.Decides.{nat_tests}
use Rattle.layers.proofs.Scale.{multipliers_more}
use Rattle.layers.proofs.scaling.check_multipliers.Goals as goal
use Rattle.layers.proofs.scaling.check_multipliers.Goals.{then-x-eq0-via-then-x-eq0, then-x-eq0-via-else-x-eq0+then-from-order}

pub returns-then-x-eq0 : goal.returns-then-x-eq0
returns-then-x-eq0 g c =
    let xs = g.M.Numbers.listed c.args.multipliers.now in
    let h : c.loop-i.i < length xs = omega arith in
    let e = multipliers_more c.args.order xs c.loop-i.i h in
    let x = c.at-x.ensures in
    elim c.then-x-eq0.branch [ then-x-eq0-via-then-x-eq0 w ↦ grind (arith, nat_tests) | then-x-eq0-via-else-x-eq0+then-from-order w ↦ grind (arith, nat_tests) ]
