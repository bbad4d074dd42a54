-- The laws that a field's type keeps, for its operations on all numbers.
use Rattle.fields.specs.Laws.{Sizes, Sums, Products, Inverses}
use Rattle.fields.specs.declared.field.Field as field
use Rattle.fields.proofs.Total.{TotalLaws, total-laws}
use Rattle.linear.specs.Operations.{operations}

pub lawful : {X : Type 0} (G : field.Ghosts X) (x : X) → Sizes (G.arithmetic x) → Sums (G.arithmetic x) → Products (G.arithmetic x) → Inverses (G.arithmetic x) → TotalLaws (operations G x)
lawful G x z s p i = total-laws (G.arithmetic x) (record { sizes = z; sums = s; products = p; inverses = i })
