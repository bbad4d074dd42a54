-- How many places of a book hold a strip.
use Rattle.std.specs.Prelude.{ℕ, count_by}
use Rattle.carrier.specs.Book.{Book, filled}

-- the count of the places that are not empty
abbrev pub held_places : Book → ℕ
held_places b = count_by filled b
