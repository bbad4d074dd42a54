-- The code that a heading asks for keeps the code meaning.
use Rattle.std.specs.Prelude.{◌≡◌, ◌≤◌, Ok}
use Rattle.fields.specs.Binary.{bytes}
use Rattle.fields.specs.Bytes.{bytes-sizes, bytes-sums, bytes-products, bytes-inverses}
use Rattle.fields.specs.Laws.{Laws}
use Rattle.fields.specs.Primality.{listed-sizes}
use Rattle.fields.specs.Primes.{residues}
use Rattle.fields.specs.Remainders.{residues-sums, residues-products, residues-inverses}
use Rattle.fields.specs.declared.prime.Prime.{Prime}
use Rattle.codes.specs.Lists.{counting}
use Rattle.codes.specs.Meaning.{Sound}
use Rattle.evaluation.specs.Evaluated.{evaluates, needs_few}
use Rattle.file.specs.declared.choice.FileCode.{FileCode}
use Rattle.file.specs.declared.choice.FileCode.TheVariants.{Remainders, Bytes}
use Rattle.file.specs.Meant.{meaning_in, need_of}

bytes_lawful : Laws bytes
bytes_lawful = record { sizes = bytes-sizes; sums = bytes-sums; products = bytes-products; inverses = bytes-inverses }

prime_lawful : (f : Prime) → Laws (residues f.modulus)
prime_lawful f = record {
  sizes = listed-sizes f.prime f.known;
  sums = residues-sums f.prime;
  products = residues-products f.prime;
  inverses = residues-inverses f.prime;
}

-- where it is fit it keeps the code meaning,
pub sound_in : (c : FileCode) → (meaning_in c).fitness ≡ Ok tt → Sound (meaning_in c)
sound_in (Remainders c) fit = (evaluates (residues c.field.modulus) (prime_lawful c.field) c.length c.dimension (counting 0 c.points.count)).sound fit
sound_in (Bytes c) fit = (evaluates bytes bytes_lawful c.length c.dimension (counting 0 c.points.count)).sound fit

-- and needs no more scratch than any code may
pub need_few : (c : FileCode) → (meaning_in c).fitness ≡ Ok tt → need_of (meaning_in c) ≤ 20000
need_few (Remainders c) fit = needs_few (residues c.field.modulus).order c.length c.dimension (counting 0 c.points.count) fit
need_few (Bytes c) fit = needs_few bytes.order c.length c.dimension (counting 0 c.points.count) fit
