-- Checks one after another: the first that fails gives the fault.
use Rattle.std.specs.Prelude.{ℕ, ◌+◌, cond, List, [], ◌∷◌, Ok, Err, ◌==◌, nat_lt}
use Rattle.fields.specs.Checks.{Check, unless}
use Rattle.codes.specs.declared.fault.CodeFault.{CodeFault}
use Rattle.codes.specs.declared.fault.CodeFault.TheVariants.{Unfit, Number, Reach}
use Rattle.codes.specs.declared.fault.FitnessFault.{FitnessFault}

-- the fitness of a code, as the first check of a call
abbrev pub when_fit : Check FitnessFault → Check CodeFault → Check CodeFault
when_fit (Ok u) later = later
when_fit (Err f) later = Err (Unfit f)

-- every number is below q, or the place of the first that is not; the list's first place is i
abbrev pub number_check : ℕ → ℕ → List ℕ → Check CodeFault
number_check q i [] = Ok tt
number_check q i (x ∷ xs) = unless (nat_lt x q) (Number i) (number_check q (i + 1) xs)

-- the same of the numbers at unmarked places
abbrev pub unmarked_check : ℕ → ℕ → List ℕ → List ℕ → Check CodeFault
unmarked_check q i [] ms = Ok tt
unmarked_check q i (x ∷ xs) [] = Ok tt
unmarked_check q i (x ∷ xs) (m ∷ ms) = cond (m == 0) (unless (nat_lt x q) (Number i) (unmarked_check q (i + 1) xs ms)) (unmarked_check q (i + 1) xs ms)

-- every number is 0, or there is no message within reach
abbrev pub zero_check : List ℕ → Check CodeFault
zero_check [] = Ok tt
zero_check (x ∷ xs) = unless (x == 0) Reach (zero_check xs)

-- what a buffer holds after a call: the result where the checks pass, and what it held where they do not
abbrev pub written : Check CodeFault → List ℕ → List ℕ → List ℕ
written (Ok u) new old = new
written (Err f) new old = old
