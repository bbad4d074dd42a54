-- The calls of a run as values of the program, and their answers.
use Rattle.std.specs.Prelude.{ℕ, List, Some, None, Err, vec_items, Result}
use Rattle.fields.specs.Checks.{Check}
use Rattle.carrier.specs.declared.call.Call.{Call as Asked}
use Rattle.carrier.specs.declared.call.Call.TheVariants.{Deliver, Strike, Read}
use Rattle.carrier.specs.declared.fault.CollectorFault.{CollectorFault}
use Rattle.carrier.specs.Book.{Call, deliver, strike, read}

-- a call after the run: what it brought, with its answer; a read has what it returned, the wrong count or a fault, and what its two buffers hold then
pub data Reply : Type 0 where
  delivered : ℕ → List ℕ → Check CollectorFault → Reply
  struck : ℕ → Check CollectorFault → Reply
  sheet : Result ℕ CollectorFault → List ℕ → List ℕ → Reply
  unanswered : Reply

-- the call that a value of the program's type stands for
abbrev pub asked : Asked → Call
asked (Deliver place strip answer) = deliver place (vec_items strip)
asked (Strike place answer) = strike place
asked (Read numbers scratch answer) = read (vec_items numbers) (vec_items scratch)

-- the reply that it stands for after the run
abbrev pub reply : Asked → Reply
reply (Deliver place strip None) = unanswered
reply (Deliver place strip (Some r)) = delivered place (vec_items strip) r
reply (Strike place None) = unanswered
reply (Strike place (Some r)) = struck place r
reply (Read numbers scratch None) = unanswered
reply (Read numbers scratch (Some r)) = sheet r (vec_items numbers) (vec_items scratch)

-- a call refused with a fault, its buffers as it brought them
abbrev pub refused : CollectorFault → Call → Reply
refused f (deliver place strip) = delivered place strip (Err f)
refused f (strike place) = struck place (Err f)
refused f (read page scratch) = sheet (Err f) page scratch
