use Rattle.std.proofs.Common.{◌≡◌, drop}
use Rattle.layers.specs.Scaled.{multiplier_check}
use Rattle.layers.proofs.scaling.check_multipliers.Given as goal

abbrev pub invariant-loop-i : goal.invariant-loop-i
invariant-loop-i g l =
    let xs = g.M.Numbers.listed l.multipliers in
    multiplier_check l.order 0 xs ≡ multiplier_check l.order l.i (drop l.i xs)
