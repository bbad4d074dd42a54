-- What a heading asks for: a field, and over it the evaluation code with the points 0 to n − 1.
use Rattle.std.specs.Prelude.{◌≡◌, ℕ, ◌+◌, ◌*◌, cond, ◌&&◌, Some, None, Ok, Err, Option, Result, ◌==◌}
use Rattle.fields.specs.Arithmetic.{Arithmetic}
use Rattle.fields.specs.Binary.{bytes}
use Rattle.fields.specs.Primes.{listed, residues}
use Rattle.codes.specs.Lists.{counting}
use Rattle.codes.specs.Meaning.{Meaning}
use Rattle.evaluation.specs.Evaluation.{evaluation}
use Rattle.file.specs.declared.choice.FileCode.{FileCode}
use Rattle.file.specs.declared.choice.FileCode.TheVariants.{Remainders, Bytes}
use Rattle.file.specs.declared.fault.FileFault.{FileFault}
use Rattle.file.specs.declared.fault.FileFault.TheVariants.{Field}
use Rattle.file.specs.declared.heading.Heading.{Heading}

-- the field that a heading names, if any: 1 and a listed modulus, or 2 and 285
abbrev pub field_of : Heading → Option Arithmetic
field_of h =
    cond (h.kind == 1) (cond (listed h.modulus) (Some (residues h.modulus)) None)
    (cond (h.kind == 2 && h.modulus == 285) (Some bytes) None)

abbrev pub code_over : Heading → Option Arithmetic → Option Meaning
code_over h None = None
code_over h (Some F) = Some (evaluation F h.n h.k (counting 0 h.n))

-- the evaluation code over the heading's field with k coefficients and the points 0 to n − 1
abbrev pub code_of : Heading → Option Meaning
code_of h = code_over h (field_of h)

-- what a code of one of the two types means
abbrev pub meaning_in : FileCode → Meaning
meaning_in (Remainders c) = evaluation (residues c.field.modulus) c.length c.dimension (counting 0 c.points.count)
meaning_in (Bytes c) = evaluation bytes c.length c.dimension (counting 0 c.points.count)

-- the scratch that an evaluation code of n points needs
abbrev pub need_of : Meaning → ℕ
need_of M = (M.long + 1) * (M.long + 3)

-- a code that means what the heading asks for, or no field is named
abbrev pub Chosen : Heading → Result FileCode FileFault → Type 0
Chosen h (Ok c) = code_of h ≡ Some (meaning_in c)
Chosen h (Err f) = (f ≡ Field) × (code_of h ≡ None)
