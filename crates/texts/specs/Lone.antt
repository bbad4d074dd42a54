-- Lists of one item.
use Rattle.std.specs.Prelude.{List, [], ◌∷◌, Ok, Err, Result}
use Rattle.texts.specs.declared.fault.LineFault.{LineFault}
use Rattle.texts.specs.declared.fault.LineFault.TheVariants.{Unknown}

-- the item of a list that has just one
abbrev pub lone : {A : Type 0} → List A → Result A LineFault
lone [] = Err Unknown
lone (x ∷ []) = Ok x
lone (x ∷ y ∷ ys) = Err Unknown
