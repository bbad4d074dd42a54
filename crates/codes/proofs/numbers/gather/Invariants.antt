use Rattle.std.proofs.Common.{◌≡◌, ℕ, ◌<◌, length, get_or}
use Rattle.codes.proofs.numbers.gather.Given as goal

abbrev pub invariant-loop-i : goal.invariant-loop-i
invariant-loop-i g l = (length l.number-items ≡ 128) × ((k : ℕ) → k < l.i → get_or l.number-items k 0 ≡ get_or (g.P.Numbers.listed l.list) k 0)
