-- A check of a list of numbers.
use Rattle.std.specs.Prelude.{ℕ, Bool, not, List, ◌==◌}
use Rattle.std.specs.List.{list_any}

-- whether a number other than 0 stands in the list
abbrev pub nonzero : List ℕ → Bool
nonzero xs = list_any (λ x. not (x == 0)) xs
