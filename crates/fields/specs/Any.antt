-- The fields of this crate as one: the arithmetic of each, and its laws by cases.
use Rattle.fields.specs.Arithmetic.{Arithmetic}
use Rattle.fields.specs.Laws.{Sizes, Sums, Products, Inverses}
use Rattle.fields.specs.Binary.{bytes}
use Rattle.fields.specs.Bytes.{bytes-sizes, bytes-sums, bytes-products, bytes-inverses}
use Rattle.fields.specs.Primes.{residues}
use Rattle.fields.specs.Primality.{listed-sizes}
use Rattle.fields.specs.Remainders.{residues-sums, residues-products, residues-inverses}
use Rattle.fields.specs.declared.any.AnyField.{AnyField}
use Rattle.fields.specs.declared.any.AnyField.TheVariants.{Prime, Bytes}

-- the remainders by the prime field's modulus, or the bytes
abbrev pub arithmetic_of : AnyField → Arithmetic
arithmetic_of (Prime p) = residues p.modulus
arithmetic_of (Bytes b) = bytes

pub any-sizes : (f : AnyField) → Sizes (arithmetic_of f)
any-sizes (Prime p) = listed-sizes p.prime p.known
any-sizes (Bytes b) = bytes-sizes

pub any-sums : (f : AnyField) → Sums (arithmetic_of f)
any-sums (Prime p) = residues-sums p.prime
any-sums (Bytes b) = bytes-sums

pub any-products : (f : AnyField) → Products (arithmetic_of f)
any-products (Prime p) = residues-products p.prime
any-products (Bytes b) = bytes-products

pub any-inverses : (f : AnyField) → Inverses (arithmetic_of f)
any-inverses (Prime p) = residues-inverses p.prime
any-inverses (Bytes b) = bytes-inverses
