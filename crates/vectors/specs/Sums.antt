-- What the sum of two tallies says.
use Rattle.std.specs.Prelude.{◌≡◌, ◌+◌, ◌-◌, ◌^◌, min}
use Rattle.vectors.specs.declared.tally.Tally.{Tally}

-- both counts, up to the greatest that is held; where nothing differs in the sum, nothing differs in either
pub record Both (a b sum : Tally) : Type 0 where
  pub compared : sum.compared ≡ min (a.compared + b.compared) (2 ^ 64 - 1)
  pub differing : sum.differing ≡ min (a.differing + b.differing) (2 ^ 64 - 1)
  pub both : sum.differing ≡ 0 → (a.differing ≡ 0) × (b.differing ≡ 0)
