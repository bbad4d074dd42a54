-- The book of a run: what its calls keep, from their arguments alone.
use Rattle.std.specs.Prelude.{ℕ, Bool, true, false, cond, ◌&&◌, List, [], ◌∷◌, length, replicate, Some, None, Option, ◌==◌, nat_lt, slice_index_or, slice_set}

-- a call of a collector; a read brings what its sheet buffer and its scratch hold
pub data Call : Type 0 where
  deliver : ℕ → List ℕ → Call
  strike : ℕ → Call
  read : List ℕ → List ℕ → Call

-- at each place nothing, or a strip
abbrev pub Book : Type 0
Book = List (Option (List ℕ))

-- whether a place holds a strip
abbrev pub filled : {X : Type 0} → Option X → Bool
filled None = false
filled (Some strip) = true

-- whether a place holds nothing
abbrev pub vacant : {X : Type 0} → Option X → Bool
vacant None = true
vacant (Some strip) = false

-- whether every number is below q
abbrev pub all_below : ℕ → List ℕ → Bool
all_below q [] = true
all_below q (x ∷ xs) = nat_lt x q && all_below q xs

-- the book after a call, for words of n numbers below q and a depth D: a delivery to an empty place below n, of D numbers below q, is written there; a strike of a filled place empties it; any other call leaves the book as it is
abbrev pub after : ℕ → ℕ → ℕ → Book → Call → Book
after n D q b (deliver place strip) =
    cond (nat_lt place n && vacant (slice_index_or b place None) && length strip == D && all_below q strip) (slice_set b place (Some strip)) b
after n D q b (strike place) = cond (nat_lt place n && filled (slice_index_or b place None)) (slice_set b place None) b
after n D q b (read sheet scratch) = b

-- the book after calls, first to last
abbrev pub booked : ℕ → ℕ → ℕ → Book → List Call → Book
booked n D q b [] = b
booked n D q b (c ∷ cs) = booked n D q (after n D q b c) cs

-- the book of a run: n places, empty at first
abbrev pub book : ℕ → ℕ → ℕ → List Call → Book
book n D q calls = booked n D q (replicate n None) calls
