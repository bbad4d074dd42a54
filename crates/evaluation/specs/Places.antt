-- The places that are not marked.
use Rattle.std.specs.Prelude.{◌≡◌, ℕ, zero, suc, ◌+◌, ◌<◌, ◌≢◌, List, [], ◌∷◌, ◌++◌, length, drop, slice_index, slice_index_or, refl}
use Rattle.std.proofs.Common.{sym, ap, ap₂, ◌∙◌, arith}
use Rattle.std.proofs.ByRecursion.{All-push}
use Rattle.std.proofs.lemmas.List.{drop_more, length-drop}
use Rattle.std.specs.List.{AllByRecursion}
use Rattle.fields.specs.Numbers.{Distinct}
use Rattle.evaluation.specs.Decoding.{present}

pub present-zero : (j : ℕ) (ms xs : List ℕ) → j < length ms → j < length xs → slice_index ms j ≡ 0 → present (drop j ms) (drop j xs) ≡ slice_index xs j ∷ present (drop (j + 1) ms) (drop (j + 1) xs)
present-zero j ms xs hm hx e =
    ap₂ present (drop_more ms j 0 hm) (drop_more xs j 0 hx) ∙ ap (λ m. present (m ∷ drop (j + 1) ms) (slice_index xs j ∷ drop (j + 1) xs)) e

skip_one : (m x : ℕ) (ms xs : List ℕ) → m ≢ 0 → present (m ∷ ms) (x ∷ xs) ≡ present ms xs
skip_one zero x ms xs n = absurd (n refl)
skip_one (suc m) x ms xs n = refl

pub present-other : (j : ℕ) (ms xs : List ℕ) → j < length ms → j < length xs → slice_index ms j ≢ 0 → present (drop j ms) (drop j xs) ≡ present (drop (j + 1) ms) (drop (j + 1) xs)
present-other j ms xs hm hx n = ap₂ present (drop_more ms j 0 hm) (drop_more xs j 0 hx) ∙ skip_one (slice_index ms j) (slice_index xs j) (drop (j + 1) ms) (drop (j + 1) xs) n

-- what is left of a list from place r on begins with x
pub front_of : (r x : ℕ) (p t : List ℕ) → drop r p ≡ x ∷ t → (r < length p) × (slice_index p r ≡ x) × (drop (r + 1) p ≡ t)
front_of r x p t e =
    let l : r < length p = omega (arith, length-drop r p, ap length e) in
    let e' : slice_index_or p r 0 ∷ drop (r + 1) p ≡ x ∷ t = sym (drop_more p r 0 l) ∙ e in
    (l, ap (λ s. slice_index s 0) e', ap (drop 1) e')

pub present-all : (P : ℕ → Type 0) (ms xs : List ℕ) → AllByRecursion P xs → AllByRecursion P (present ms xs)
present-all P [] xs h = tt
present-all P (m ∷ ms) [] h = tt
present-all P (zero ∷ ms) (x ∷ xs) h = (h.0, present-all P ms xs h.1)
present-all P (suc m ∷ ms) (x ∷ xs) h = present-all P ms xs h.1

pub present-distinct : (ms xs : List ℕ) → Distinct xs → Distinct (present ms xs)
present-distinct [] xs h = tt
present-distinct (m ∷ ms) [] h = tt
present-distinct (zero ∷ ms) (x ∷ xs) h = (present-all (λ y. y ≢ x) ms xs h.0, present-distinct ms xs h.1)
present-distinct (suc m ∷ ms) (x ∷ xs) h = present-distinct ms xs h.1

-- the next place that is not marked
pub place : (r j : ℕ) (ms xs : List ℕ) → j < length ms → length xs ≡ length ms → slice_index ms j ≡ 0 → drop r (present ms xs) ≡ present (drop j ms) (drop j xs)
    → (r < length (present ms xs)) × (slice_index (present ms xs) r ≡ slice_index xs j) × (drop (r + 1) (present ms xs) ≡ present (drop (j + 1) ms) (drop (j + 1) xs))
place r j ms xs h e z inv = front_of r (slice_index xs j) (present ms xs) (present (drop (j + 1) ms) (drop (j + 1) xs)) (inv ∙ present-zero j ms xs h (omega arith) z)

-- the next place, where it is not marked
pub here : (r x m : ℕ) (zs ms xs ms' xs' : List ℕ) → ms ≡ m ∷ ms' → xs ≡ x ∷ xs' → m ≡ 0 → drop r zs ≡ present ms xs
    → (r < length zs) × (slice_index zs r ≡ x) × (drop (r + 1) zs ≡ present ms' xs')
here r x m zs ms xs ms' xs' em ex z inv = front_of r x zs (present ms' xs') (inv ∙ ap₂ present em ex ∙ ap (λ k. present (k ∷ ms') (x ∷ xs')) z)

-- the next place, where it is marked
pub skipped : (r x m : ℕ) (zs ms xs ms' xs' : List ℕ) → ms ≡ m ∷ ms' → xs ≡ x ∷ xs' → m ≢ 0 → drop r zs ≡ present ms xs → drop r zs ≡ present ms' xs'
skipped r x m zs ms xs ms' xs' em ex n inv = inv ∙ ap₂ present em ex ∙ skip_one m x ms' xs' n

pub distinct_push : (xs : List ℕ) (y : ℕ) → Distinct xs → AllByRecursion (λ x. x ≢ y) xs → Distinct (xs ++ y ∷ [])
distinct_push [] y h n = (tt, tt)
distinct_push (x ∷ xs) y h n = (All-push (λ z. z ≢ x) xs y h.0 (λ e. n.0 (sym e)), distinct_push xs y h.1 n.1)
