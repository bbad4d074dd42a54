use Rattle.std.proofs.Common.{◌≡◌, ℕ, ◌<◌, get_or, Some}
use Rattle.symbols.specs.Symbols.{multiplier}
use Rattle.symbols.proofs.multipliers.fill_multipliers.Given as goal

abbrev pub invariant-loop-j : goal.invariant-loop-j
invariant-loop-j g l = (k : ℕ) → k < l.j → multiplier (g.F.Field.arithmetic l.f) l.b l.points k ≡ Some (get_or l.multipliers k 0)
