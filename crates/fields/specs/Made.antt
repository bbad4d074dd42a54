-- What making a prime field gives, by the arithmetic that its own `Field` says it has.
use Rattle.std.specs.Prelude.{◌≡◌, ℕ, true, false, Ok, Err, Result}
use Rattle.fields.specs.Primes.{listed, residues}
use Rattle.fields.specs.declared.fault.FieldFault.{FieldFault}
use Rattle.fields.specs.declared.fault.FieldFault.TheVariants.{Unlisted}
use Rattle.fields.specs.declared.prime.Prime.{Prime}
use Rattle.fields.specs.contracts.prime.PrimeField.TheImpl as prime

-- a listed modulus makes the field of the remainders by it, and any other is refused
abbrev pub Made : ℕ → Result Prime FieldFault → Type 0
Made modulus (Ok f) = (listed modulus ≡ true) × ((prime.ghosts).arithmetic f ≡ residues modulus)
Made modulus (Err e) = (listed modulus ≡ false) × (e ≡ Unlisted)
