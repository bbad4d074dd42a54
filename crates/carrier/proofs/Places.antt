-- Counting the places that hold a strip.
use Rattle.std.proofs.Common.{◌≡◌, ℕ, ◌+◌, min, Bool, cond, List, [], ◌∷◌, map, length, take, count_by, Option, sym, refl, ap, ap₂, ◌∙◌, inl, inr, arith}
use Rattle.std.proofs.lemmas.List.{take_all}
use Rattle.std.proofs.lemmas.List.Sums.{sum_by-cons}
use Rattle.std.proofs.lemmas.Bool.{cases_lt}
use Rattle.carrier.specs.Book.{Book, filled}
use Rattle.carrier.specs.Places.{held_places}
use Rattle.carrier.specs.Records.{records, held}
use Rattle.carrier.proofs.Records.{filled-held}

places_held : (D : ℕ) (b : Book) → held_places (map (held D) b) ≡ held_places b
places_held D [] = refl
places_held D (o ∷ b) =
    let one : Option (List ℕ) → ℕ = λ x. cond (filled x) 1 0 in
    sum_by-cons one (held D o) (map (held D) b) ∙ ap₂ (λ (m n : ℕ). m + n) (ap (λ (t : Bool). cond t 1 0) (filled-held D o)) (places_held D b) ∙ sym (sum_by-cons one o b)

-- the first places of a table, as its records
pub places_records : (n D i : ℕ) (strips : Book) → length strips ≡ 128 → i ≡ min n 128 → count_by (filled {X = List ℕ}) (take i strips) ≡ held_places (records n D strips)
places_records n D i strips l e =
    ap held_places (elim (cases_lt n 128) [
      | inl h ↦ ap (λ k. take k strips) (let z : i ≡ n = omega arith in z)
      | inr h ↦ take_all i strips (omega arith) ∙ sym (take_all n strips (omega arith))
    ]) ∙ sym (places_held D (take n strips))
