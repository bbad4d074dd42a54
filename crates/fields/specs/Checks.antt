-- Checks one after another: the first that fails gives the fault.
use Rattle.std.specs.Prelude.{ℕ, Bool, cond, List, Some, None, Option, Ok, Err, Result, nat_le}
use Rattle.std.specs.List.{position}

-- passed, or the fault
abbrev pub Check : Type 0 → Type 0
Check Fault = Result (Unit {0}) Fault

-- the fault, unless the test holds; where it holds, what the later checks say
abbrev pub unless : {Fault : Type 0} → Bool → Fault → Check Fault → Check Fault
unless passed fault later = cond passed later (Err fault)

-- a check, and where it passes, what the later checks say
abbrev pub and_then : {Fault : Type 0} → Check Fault → Check Fault → Check Fault
and_then (Ok u) later = later
and_then (Err fault) later = Err fault

-- the first place with a number that is not below q
abbrev pub stray : ℕ → List ℕ → Option ℕ
stray q xs = position (λ x. nat_le q x) xs

-- a search that must find nothing, before the other checks; the fault has the place that it found
abbrev pub unless_found : {Fault : Type 0} → Option ℕ → (ℕ → Fault) → Check Fault → Check Fault
unless_found (Some place) fault later = Err (fault place)
unless_found None fault later = later
