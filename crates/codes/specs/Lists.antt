-- Lists that are made: numbers in a row, and a list brought to a length.
use Rattle.std.specs.Prelude.{ℕ, zero, suc, ◌+◌, List, [], ◌∷◌, ◌++◌, take, replicate}

-- n numbers from i on: i, i + 1, ..
abbrev pub counting : ℕ → ℕ → List ℕ
counting i zero = []
counting i (suc n) = i ∷ counting (i + 1) n

-- the first n numbers of a list, with zeros after a shorter one
abbrev pub filled : ℕ → List ℕ → List ℕ
filled n xs = take n (xs ++ replicate n 0)
