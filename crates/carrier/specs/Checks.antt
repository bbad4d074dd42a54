-- The checks of each call of a collector, first to last.
use Rattle.std.specs.Prelude.{ℕ, ◌*◌, ◌&&◌, List, length, None, Ok, Err, ◌==◌, nat_le, nat_lt, slice_index_or}
use Rattle.fields.specs.Checks.{Check, unless, and_then}
use Rattle.codes.specs.Checks.{number_check}
use Rattle.codes.specs.Meaning.{Meaning}
use Rattle.codes.specs.declared.fault.CodeFault.{CodeFault}
use Rattle.codes.specs.declared.fault.CodeFault.TheVariants.{Unfit, Scratch}
use Rattle.codes.specs.declared.fault.FitnessFault.{FitnessFault}
use Rattle.carrier.specs.declared.fault.CollectorFault.{CollectorFault}
use Rattle.carrier.specs.declared.fault.CollectorFault.TheVariants.{Code, Depth, Place, StripLength, Taken, Vacant, SheetLength}
use Rattle.carrier.specs.Book.{Book, filled, vacant}

-- a code's fitness, and a code's check, as the collector's
abbrev pub from_fitness : Check FitnessFault → Check CollectorFault
from_fitness (Ok u) = Ok tt
from_fitness (Err f) = Err (Code (Unfit f) 0)

abbrev pub from_code : Check CodeFault → Check CollectorFault
from_code (Ok u) = Ok tt
from_code (Err f) = Err (Code f 0)

-- a fit code and a depth from 1 to 16
abbrev pub fit : Check FitnessFault → ℕ → Check CollectorFault
fit c D = and_then (from_fitness c) (unless (nat_le 1 D && nat_le D 16) Depth (Ok tt))

abbrev pub fit_check : Meaning → ℕ → Check CollectorFault
fit_check m D = fit m.fitness D

abbrev pub deliver_check : Meaning → ℕ → Book → ℕ → List ℕ → Check CollectorFault
deliver_check m D b place strip =
    and_then (fit_check m D)
    (unless (nat_lt place m.long) Place
    (unless (length strip == D) StripLength
    (and_then (from_code (number_check m.order 0 strip))
    (unless (vacant (slice_index_or b place None)) Taken (Ok tt)))))

abbrev pub strike_check : Meaning → ℕ → Book → ℕ → Check CollectorFault
strike_check m D b place =
    and_then (fit_check m D)
    (unless (nat_lt place m.long) Place
    (unless (filled (slice_index_or b place None)) Vacant (Ok tt)))

-- `asked` and `lent` are the lengths of the sheet buffer and of the scratch
abbrev pub read_check : Meaning → (need D asked lent : ℕ) → Check CollectorFault
read_check m need D asked lent =
    and_then (fit_check m D)
    (unless (asked == D * m.dimension) SheetLength
    (unless (nat_le need lent) (Code Scratch 0) (Ok tt)))

-- the records after a call: changed where it is accepted
abbrev pub entered : Check CollectorFault → Book → Book → Book
entered (Ok u) new old = new
entered (Err f) new old = old
