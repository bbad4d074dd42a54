-- What a row of the table counts.
use Rattle.std.specs.Prelude.{◌≡◌, ◌<◌, Some, None, Ok, Err, Option, Result}
use Rattle.vectors.specs.declared.tally.Tally.{Tally}

-- nothing differs in what a line compared, and it compared something
abbrev pub Agrees : Option Tally → Type 0
Agrees (Some t) = (0 < t.compared) × (t.differing ≡ 0)
Agrees None = ⊥

-- where nothing differs in a row after a line, nothing did before, and the line agrees
abbrev pub Counted : {E : Type 0} → Tally → Option Tally → Tally → Result (Unit {0}) E → Type 0
Counted old line new (Ok u) = new.differing ≡ 0 → (old.differing ≡ 0) × Agrees line
Counted old line new (Err e) = Unit {0}

-- where nothing differs in the total after a row, nothing did before, and nothing does in the row, if it compared anything
abbrev pub Ended : {E : Type 0} → (row old new : Tally) → Result (Unit {0}) E → Type 0
Ended row old new (Ok u) = new.differing ≡ 0 → (old.differing ≡ 0) × (0 < row.compared → row.differing ≡ 0)
Ended row old new (Err e) = Unit {0}
