-- What is missing and what is wrong in a received word. A place is marked as missing by any number but 0.
use Rattle.std.specs.Prelude.{ℕ, ◌+◌, cond, List, [], ◌∷◌, ◌==◌}

-- the count of marked places
abbrev pub missing : List ℕ → ℕ
missing [] = 0
missing (m ∷ ms) = cond (m == 0) 0 1 + missing ms

-- of received numbers, marks and a word: the count of unmarked places where the received number differs from the word's
abbrev pub wrong : List ℕ → List ℕ → List ℕ → ℕ
wrong [] ms ws = 0
wrong (r ∷ rs) [] ws = 0
wrong (r ∷ rs) (m ∷ ms) [] = 0
wrong (r ∷ rs) (m ∷ ms) (w ∷ ws) = cond (m == 0) (cond (r == w) 0 1) 0 + wrong rs ms ws
