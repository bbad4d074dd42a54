-- Which strips a run keeps, said of its calls and not step by step.
use Rattle.std.specs.Prelude.{◌≡◌, ℕ, ◌<◌, ◌≢◌, ◌↔◌, List, ◌∷◌, ◌++◌, length, get_or, Some, None, slice_index_or}
use Rattle.std.specs.List.{AllByRecursion}
use Rattle.fields.specs.Numbers.{Below}
use Rattle.carrier.specs.Book.{Call, deliver, strike, book}

-- The strip was delivered to the place when the place was below n and empty; it has D numbers below q; and no strike of the place came after.
pub record Kept (n D q : ℕ) (calls : List Call) (place : ℕ) (strip : List ℕ) : Type 0 where
  pub earlier : List Call
  pub later : List Call
  pub delivered : calls ≡ earlier ++ (deliver place strip ∷ later)
  pub inside : place < n
  pub empty : get_or (book n D q earlier) place None ≡ None
  pub long : length strip ≡ D
  pub below : Below q strip
  pub unstruck : AllByRecursion (λ call. call ≢ strike place) later

-- The book holds exactly the strips that are kept.
abbrev pub BookKeeps : ℕ → ℕ → ℕ → List Call → Type 0
BookKeeps n D q calls =
    (place : ℕ) (strip : List ℕ) → (slice_index_or (book n D q calls) place None ≡ Some strip) ↔ Kept n D q calls place strip
