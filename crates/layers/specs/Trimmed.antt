-- What trimming makes of a code's meaning.
use Rattle.std.specs.Prelude.{ℕ, ◌-◌, ◌++◌, replicate, Ok, nat_lt}
use Rattle.fields.specs.Checks.{unless, and_then}
use Rattle.codes.specs.Meaning.{Meaning}
use Rattle.codes.specs.declared.fault.FitnessFault.TheVariants.{Trim}

-- the code below trimmed by z: messages are z numbers shorter, and a message's word is that of the message with z zeros at its end
abbrev pub trimmed : ℕ → Meaning → Meaning
trimmed z M = record {
  fitness = and_then M.fitness (unless (nat_lt z M.dimension) Trim (Ok tt));
  order = M.order;
  long = M.long;
  dimension = M.dimension - z;
  distance = M.distance;
  word = λ m. M.word (m ++ replicate z 0);
}
