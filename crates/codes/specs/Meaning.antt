-- What a code means, and what its calls answer.
use Rattle.std.specs.Prelude.{◌≡◌, ℕ, ◌+◌, ◌-◌, ◌*◌, ◌≤◌, ◌&&◌, ◌≢◌, List, length, drop, Ok, Err, Result, ◌==◌, nat_le}
use Rattle.fields.specs.Numbers.{Below, differ}
use Rattle.fields.specs.Checks.{Check, unless}
use Rattle.codes.specs.Checks.{when_fit, number_check, unmarked_check}
use Rattle.codes.specs.Words.{wrong, missing}
use Rattle.codes.specs.declared.fault.CodeFault.{CodeFault}
use Rattle.codes.specs.declared.fault.CodeFault.TheVariants.{MessageLength, WordLength, Scratch, Reach}
use Rattle.codes.specs.declared.fault.FitnessFault.{FitnessFault}

-- what a code means; where it is unfit, all but its fitness is free
pub record Meaning : Type 0 where
  -- fit, or why it is not
  pub fitness : Check FitnessFault
  -- q: the numbers of messages and words are those below it
  pub order : ℕ
  -- n: how many numbers a word has
  pub long : ℕ
  -- k: how many numbers a message has
  pub dimension : ℕ
  -- d: in how many places the words of two different messages differ at least
  pub distance : ℕ
  -- the word of a message
  pub word : List ℕ → List ℕ

-- a message of the code: k numbers below q
pub record Message (M : Meaning) (m : List ℕ) : Type 0 where
  pub long : length m ≡ M.dimension
  pub below : Below M.order m

-- a message within reach of what was received: twice its wrong places and the missing ones are at most d − 1
pub record Reached (M : Meaning) (received marks m : List ℕ) : Type 0 where
  pub message : Message M m
  pub near : 2 * wrong received marks (M.word m) + missing marks ≤ M.distance - 1

-- what a fit code keeps: its parameters are in range, each message's word has n numbers below q, and words of two different messages differ in at least d places
pub record Sound (M : Meaning) : Type 0 where
  pub order_low : 2 ≤ M.order
  pub order_high : M.order ≤ 65536
  pub length_low : 1 ≤ M.long
  pub length_high : M.long ≤ 128
  pub dimension_low : 1 ≤ M.dimension
  pub dimension_high : M.dimension ≤ M.long
  pub distance_low : 1 ≤ M.distance
  pub distance_high : M.distance ≤ M.long
  pub word_long : (m : List ℕ) → Message M m → length (M.word m) ≡ M.long
  pub word_below : (m : List ℕ) → Message M m → Below M.order (M.word m)
  pub apart : (m m' : List ℕ) → Message M m → Message M m' → m ≢ m' → M.distance ≤ differ (M.word m) (M.word m')

-- the checks of issuing a message into a buffer that has room for so many numbers
abbrev pub issue_check : Meaning → List ℕ → ℕ → Check CodeFault
issue_check M message room =
    when_fit M.fitness
    (unless (length message == M.dimension) MessageLength
    (unless (room == M.long) WordLength (number_check M.order 0 message)))

-- the checks of decoding, where `room` and `lent` are the lengths of the message's buffer and of the scratch
abbrev pub decode_check : Meaning → (need : ℕ) (received marks : List ℕ) (room lent : ℕ) → Check CodeFault
decode_check M need received marks room lent =
    when_fit M.fitness
    (unless (length received == M.long && length marks == M.long) WordLength
    (unless (room == M.dimension) MessageLength
    (unless (nat_le need lent) Scratch (unmarked_check M.order 0 received marks))))

-- an answer: the buffer holds a message within reach, and its wrong count is returned
pub record Found (M : Meaning) (received marks new : List ℕ) (e : ℕ) : Type 0 where
  pub reached : Reached M received marks new
  pub counted : e ≡ wrong received marks (M.word new)

-- a refusal after the checks: no message is within reach, and the buffer is as it was
pub record OutOfReach (M : Meaning) (received marks old new : List ℕ) (f : CodeFault) : Type 0 where
  pub fault : f ≡ Reach
  pub unchanged : new ≡ old
  pub none : (m : List ℕ) → Reached M received marks m → ⊥

-- what decoding gives where its checks pass
abbrev pub Solved : (M : Meaning) (received marks old new : List ℕ) → Result ℕ CodeFault → Type 0
Solved M received marks old new (Ok e) = Found M received marks new e
Solved M received marks old new (Err f) = OutOfReach M received marks old new f

-- after checks that passed: a solution, and the scratch past what is needed is as it was
pub record Accepted (M : Meaning) (need : ℕ) (received marks old new scratch scratch' : List ℕ) (r : Result ℕ CodeFault) : Type 0 where
  pub solved : Solved M received marks old new r
  pub rest : drop need scratch' ≡ drop need scratch

-- after a check that failed: its fault, and both buffers are as they were
pub record Refused (f : CodeFault) (old new scratch scratch' : List ℕ) (r : Result ℕ CodeFault) : Type 0 where
  pub answer : r ≡ Err f
  pub message_kept : new ≡ old
  pub scratch_kept : scratch' ≡ scratch

-- what decoding does, by the outcome of its checks
abbrev pub Decided : Check CodeFault → (M : Meaning) (need : ℕ) (received marks old new scratch scratch' : List ℕ) → Result ℕ CodeFault → Type 0
Decided (Ok u) M need received marks old new scratch scratch' r = Accepted M need received marks old new scratch scratch' r
Decided (Err f) M need received marks old new scratch scratch' r = Refused f old new scratch scratch' r

-- what decoding does: the message's buffer goes from `old` to `new`, and the scratch from `scratch` to `scratch'`
abbrev pub Decoded : (M : Meaning) (need : ℕ) (received marks old new scratch scratch' : List ℕ) → Result ℕ CodeFault → Type 0
Decoded M need received marks old new scratch scratch' r =
    Decided (decode_check M need received marks (length old) (length scratch)) M need received marks old new scratch scratch' r
