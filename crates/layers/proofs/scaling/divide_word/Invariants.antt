use Rattle.fields.specs.Arithmetic.{total}
use Rattle.layers.specs.Products.{Written, quotient_at}
use Rattle.layers.proofs.scaling.divide_word.Given as goal

abbrev pub invariant-loop-i : goal.invariant-loop-i
invariant-loop-i g l = Written 128 (quotient_at (total (g.F.Field.arithmetic l.field)) (g.M.Numbers.listed l.multipliers) l.received l.marks) l.i l.word
