-- The worked examples, as one list. Each says what a call answers, by the definitions that the call's contract uses.
use Rattle.std.specs.Prelude.{◌≡◌, ℕ, ◌≤◌, List, [], ◌∷◌, length, Some, None, Ok, Err, Option, Result}
use Rattle.std.specs.List.{AllByRecursion}
use Rattle.fields.specs.Arithmetic.{Arithmetic, total, inverted}
use Rattle.fields.specs.Binary.{bytes}
use Rattle.fields.specs.Primes.{residues}
use Rattle.codes.specs.Meaning.{Meaning, issue_check, Decoded}
use Rattle.codes.specs.declared.fault.CodeFault.{CodeFault}
use Rattle.codes.specs.declared.fault.CodeFault.TheVariants.{Reach}
use Rattle.evaluation.specs.Evaluation.{evaluation}
use Rattle.layers.specs.Scaled.{scaled}
use Rattle.layers.specs.Trimmed.{trimmed}
use Rattle.repetition.specs.Repeats.{repetition}

-- one worked example
pub data Example : Type 0 where
  -- in a field, two numbers and their product
  multiplies : Arithmetic → (a b product : ℕ) → Example
  -- in a field, a number and its inverse, if it has one
  inverts : Arithmetic → (a : ℕ) → Option ℕ → Example
  -- of a code, a message and its word
  issues : Meaning → (message word : List ℕ) → Example
  -- of a code, what is received with which marks, and the message found with its count of wrong numbers
  decodes : Meaning → (received marks message : List ℕ) → (wrong : ℕ) → Example
  -- of a code, what is received with which marks, where no message is within reach
  refuses : Meaning → (received marks : List ℕ) → Example

-- so ends every call of `decode` that keeps its contract and is lent a buffer of a message's length and a scratch that suffices: by the buffer before and after it, and its answer
abbrev pub Always : Meaning → (received marks : List ℕ) → (List ℕ → List ℕ → Result ℕ CodeFault → Type 0) → Type 0
Always M received marks End =
    (need : ℕ) (old new scratch scratch' : List ℕ) (r : Result ℕ CodeFault) → length old ≡ M.dimension → need ≤ length scratch
    → Decoded M need received marks old new scratch scratch' r → End old new r

-- what an example says
abbrev pub Holds : Example → Type 0
Holds (multiplies F a b product) = (total F).times a b ≡ product
Holds (inverts F a inverse) = inverted F a ≡ inverse
Holds (issues M message word) = (issue_check M message (length word) ≡ Ok tt) × (M.word message ≡ word)
Holds (decodes M received marks message wrong) = Always M received marks (λ old new r. (r ≡ Ok wrong) × (new ≡ message))
Holds (refuses M received marks) = Always M received marks (λ old new r. (r ≡ Err Reach) × (new ≡ old))

-- polynomials of four coefficients modulo 7, at six points
abbrev pub modulo_7 : List ℕ → Meaning
modulo_7 points = evaluation (residues 7) 6 4 points

-- polynomials of two coefficients modulo 11, at the points 1 3 9 5 4
abbrev pub modulo_11 : Meaning
modulo_11 = evaluation (residues 11) 5 2 (1 ∷ 3 ∷ 9 ∷ 5 ∷ 4 ∷ [])

-- the numbers 1 to 6
abbrev pub one_to_six : List ℕ
one_to_six = 1 ∷ 2 ∷ 3 ∷ 4 ∷ 5 ∷ 6 ∷ []

-- a word of `modulo_11` in which a number is wrong
abbrev pub damaged : List ℕ
damaged = 5 ∷ 9 ∷ 1 ∷ 2 ∷ 0 ∷ []

-- no place of five is missing
abbrev pub none_missing : List ℕ
none_missing = 0 ∷ 0 ∷ 0 ∷ 0 ∷ 0 ∷ []

-- the worked examples
abbrev pub examples : List Example
examples =
    multiplies bytes 2 128 29
    ∷ multiplies bytes 3 7 9
    ∷ inverts bytes 2 (Some 142)
    ∷ inverts bytes 0 None
    ∷ issues (modulo_7 one_to_six) (3 ∷ 0 ∷ 2 ∷ 1 ∷ []) (6 ∷ 5 ∷ 6 ∷ 1 ∷ 3 ∷ 4 ∷ [])
    ∷ issues (modulo_7 (1 ∷ 3 ∷ 2 ∷ 6 ∷ 4 ∷ 5 ∷ [])) (3 ∷ 0 ∷ 2 ∷ 1 ∷ []) (6 ∷ 6 ∷ 5 ∷ 4 ∷ 1 ∷ 3 ∷ [])
    -- a published text prints 0 0 5 0 5 5 here, which is the word of another message
    ∷ issues (modulo_7 one_to_six) (6 ∷ 3 ∷ 4 ∷ 1 ∷ []) (0 ∷ 1 ∷ 1 ∷ 6 ∷ 1 ∷ 6 ∷ [])
    ∷ issues (modulo_7 one_to_six) (6 ∷ 0 ∷ 0 ∷ 1 ∷ []) (0 ∷ 0 ∷ 5 ∷ 0 ∷ 5 ∷ 5 ∷ [])
    ∷ issues (evaluation bytes 3 2 (0 ∷ 1 ∷ 2 ∷ [])) (5 ∷ 7 ∷ []) (5 ∷ 2 ∷ 11 ∷ [])
    ∷ decodes modulo_11 damaged none_missing (3 ∷ 2 ∷ []) 1
    ∷ decodes modulo_11 damaged (1 ∷ 0 ∷ 0 ∷ 0 ∷ 0 ∷ []) (3 ∷ 2 ∷ []) 1
    ∷ refuses modulo_11 damaged (1 ∷ 1 ∷ 0 ∷ 0 ∷ 0 ∷ [])
    ∷ decodes modulo_11 damaged (1 ∷ 1 ∷ 1 ∷ 0 ∷ 0 ∷ []) (3 ∷ 2 ∷ []) 0
    ∷ decodes modulo_11 damaged (1 ∷ 1 ∷ 0 ∷ 1 ∷ 0 ∷ []) (8 ∷ 9 ∷ []) 0
    ∷ decodes (repetition 11 5) (4 ∷ 4 ∷ 7 ∷ 4 ∷ 7 ∷ []) none_missing (4 ∷ []) 2
    ∷ refuses (repetition 11 5) (4 ∷ 4 ∷ 7 ∷ 4 ∷ 7 ∷ []) (1 ∷ 0 ∷ 0 ∷ 0 ∷ 0 ∷ [])
    ∷ refuses (trimmed 1 modulo_11) damaged none_missing
    ∷ issues (scaled (residues 7) one_to_six (modulo_7 one_to_six)) (3 ∷ 0 ∷ 2 ∷ 1 ∷ []) (6 ∷ 3 ∷ 4 ∷ 4 ∷ 1 ∷ 3 ∷ [])
    ∷ []

-- every worked example holds
abbrev pub ExamplesHold : Type 0
ExamplesHold = AllByRecursion Holds examples
