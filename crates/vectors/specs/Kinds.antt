-- The name of each kind of symbol, its field, and its check roots: the powers of a base, from a first exponent on.
use Rattle.std.specs.Prelude.{◌≡◌, ℕ, List, Ok, Err, Result, codes}
use Rattle.fields.specs.Arithmetic.{Arithmetic}
use Rattle.fields.specs.Binary.{bytes}
use Rattle.fields.specs.Primes.{residues}
use Rattle.texts.specs.declared.fault.LineFault.{LineFault}
use Rattle.texts.specs.declared.fault.LineFault.TheVariants.{Unknown}
use Rattle.vectors.specs.declared.symbol.Kind.{Kind}
use Rattle.vectors.specs.declared.symbol.Kind.TheVariants.{Qr, Pdf417}

-- the kind that a word names; any other word is not understood
abbrev pub KindNamed : List ℕ → Result Kind LineFault → Type 0
KindNamed word r =
    (word ≡ codes "qr" → r ≡ Ok Qr)
    × (word ≡ codes "pdf417" → r ≡ Ok Pdf417)
    × ((word ≡ codes "qr" → ⊥) → (word ≡ codes "pdf417" → ⊥) → r ≡ Err Unknown)

abbrev pub arithmetic_of : Kind → Arithmetic
arithmetic_of Qr = bytes
arithmetic_of Pdf417 = residues 929

abbrev pub base : Kind → ℕ
base Qr = 2
base Pdf417 = 3

abbrev pub first_root_of : Kind → ℕ
first_root_of Qr = 0
first_root_of Pdf417 = 1
