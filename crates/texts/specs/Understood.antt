-- What is made of a line that is read, or not.
use Rattle.std.specs.Prelude.{Ok, Err, Result, Some, None, Option}
use Rattle.std.specs.declared.alloc.AllocError.{AllocError}
use Rattle.texts.specs.declared.fault.LineFault.{LineFault}
use Rattle.texts.specs.declared.fault.LineFault.TheVariants.{Unknown, Memory}

-- what was read, or nothing where it is not understood; a lack of memory is passed on
abbrev pub understood_of : {A : Type 0} → Result A LineFault → Result (Option A) AllocError
understood_of (Ok x) = Ok (Some x)
understood_of (Err Unknown) = Ok None
understood_of (Err (Memory e)) = Err e
