-- What stands for a number that may be missing.
use Rattle.std.specs.Prelude.{ℕ, Some, None, Option}

-- the number, or one that no code looks at
abbrev pub number : Option ℕ → ℕ
number (Some x) = x
number None = 65535

-- a mark of 0 says that the number is present
abbrev pub mark : Option ℕ → ℕ
mark (Some x) = 0
mark None = 1
