-- What a source of strips hands out.
use Rattle.std.specs.Prelude.{◌≡◌, ℕ, ◌<◌, ◌≤◌, ◌≢◌, ◌⊎◌, List, [], length, Some, None, Option, slice_index_or}
use Rattle.file.specs.Form.{Strip, strip}

-- strip i of those of depth D, as its place and, in a buffer of the right length, its numbers; or nothing, and the buffer as it was
abbrev pub Fetched : List Strip → (D i : ℕ) (old new : List ℕ) → Option ℕ → Type 0
Fetched ss D i old new (Some place) = (i < length ss) × (length old ≡ D) × (slice_index_or ss i (strip 0 []) ≡ strip place new)
Fetched ss D i old new None = ((length ss ≤ i) ⊎ (length old ≢ D)) × (new ≡ old)
