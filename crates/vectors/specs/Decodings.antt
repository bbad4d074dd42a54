-- What a code's answers say, once they are taken over by the program.
use Rattle.std.specs.Prelude.{◌≡◌, ℕ, List, map, vec_items, Option}
use Rattle.codes.specs.Meaning.{Meaning, Reached, Found}
use Rattle.vectors.specs.Entries.{number, mark}
use Rattle.vectors.specs.declared.questions.Answer.{Answer}
use Rattle.vectors.specs.declared.questions.Answer.TheVariants.{Accepted, Refused, Message}

-- no message is within reach of what was received
abbrev pub Lost : Meaning → List (Option ℕ) → Type 0
Lost M received = (m : List ℕ) → Reached M (map number received) (map mark received) m → ⊥

-- a message that is answered is within reach of what was received, and its wrong count is answered with it; a refusal by 13 says that none is
abbrev pub Gives : Meaning → List (Option ℕ) → Answer → Type 0
Gives M received Accepted = ⊥
Gives M received (Refused n) = n ≡ 13 → Lost M received
Gives M received (Message m e) = Found M (map number received) (map mark received) (vec_items m) e

-- a message within reach of what was received has the codewords for its word, and so many of the numbers are wrong
pub record Finds (M : Meaning) (codewords : List ℕ) (received : List (Option ℕ)) (e : ℕ) : Type 0 where
  pub message : List ℕ
  pub found : Found M (map number received) (map mark received) message e
  pub word : M.word message ≡ codewords
