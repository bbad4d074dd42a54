-- One step of each recursion over what is left of a list.
use Rattle.std.proofs.Common.{◌≡◌, ℕ, ◌+◌, ◌<◌, Bool, true, false, cond, eqb, leb, ltb, List, [], ◌∷◌, length, get_or, drop, Some, Option, Ok, sym, refl, ap, ltb-true, leb-true, ◌∙◌, ◌⊎◌, inl, inr, arith}
use Rattle.std.proofs.lemmas.List.{at_drop_more}
use Rattle.std.proofs.lemmas.Bool.{leb-false, ltb-false}
use Rattle.std.proofs.lemmas.Iterator.Adapters.{position_from-zero}
use Rattle.std.specs.List.{position_from}
use Rattle.fields.specs.Checks.{unless, unless_found, stray}
use Rattle.codes.specs.Checks.{number_check, unmarked_check}
use Rattle.codes.specs.Words.{missing, wrong}
use Rattle.codes.specs.declared.fault.CodeFault.TheVariants.{Number}

found-from : (q i : ℕ) (xs : List ℕ) → number_check q i xs ≡ unless_found (position_from (λ x. leb q x) i xs) Number (Ok tt)
found-from q i [] = refl
found-from q i (x ∷ xs) = go (leb q x) (ltb x q) refl refl (found-from q (i + 1) xs)
  where
    go : (a b : Bool) → leb q x ≡ a → ltb x q ≡ b → number_check q (i + 1) xs ≡ unless_found (position_from (λ y. leb q y) (i + 1) xs) Number (Ok tt)
        → unless b (Number i) (number_check q (i + 1) xs) ≡ unless_found (cond a (Some i) (position_from (λ y. leb q y) (i + 1) xs)) Number (Ok tt)
    go true true e f rest = let h = leb-true q x e in let l = ltb-true x q f in absurd (omega arith)
    go true false e f rest = refl
    go false true e f rest = rest
    go false false e f rest = let h = leb-false q x e in let l = ltb-false x q f in absurd (omega arith)

-- the check of numbers goes by the search for one that is not below q
pub found_check : (q : ℕ) (xs : List ℕ) (o : Option ℕ) → o ≡ stray q xs → unless_found o Number (Ok tt) ≡ number_check q 0 xs
found_check q xs o e = ap (λ r. unless_found r Number (Ok tt)) (e ∙ position_from-zero (λ x. leb q x) xs) ∙ sym (found-from q 0 xs)

pub missing-more : (ms : List ℕ) (i : ℕ) → i < length ms → missing (drop i ms) ≡ cond (eqb (get_or ms i 0) 0) 0 1 + missing (drop (i + 1) ms)
missing-more ms i h = at_drop_more missing ms i 0 h

pub wrong-more : (rs ms ws : List ℕ) (i : ℕ) → i < length rs → i < length ms → i < length ws
    → wrong (drop i rs) (drop i ms) (drop i ws)
    ≡ cond (eqb (get_or ms i 0) 0) (cond (eqb (get_or rs i 0) (get_or ws i 0)) 0 1) 0 + wrong (drop (i + 1) rs) (drop (i + 1) ms) (drop (i + 1) ws)
wrong-more rs ms ws i a b c =
    at_drop_more (λ x. wrong x (drop i ms) (drop i ws)) rs i 0 a
    ∙ at_drop_more (λ x. wrong (get_or rs i 0 ∷ drop (i + 1) rs) x (drop i ws)) ms i 0 b
    ∙ at_drop_more (λ x. wrong (get_or rs i 0 ∷ drop (i + 1) rs) (get_or ms i 0 ∷ drop (i + 1) ms) x) ws i 0 c

-- past the end of the shorter list nothing is checked
pub unmarked_end : (q i : ℕ) (xs ms : List ℕ) → (length xs ≡ 0) ⊎ (length ms ≡ 0) → unmarked_check q i xs ms ≡ Ok tt
unmarked_end q i [] ms h = refl
unmarked_end q i (x ∷ xs) [] h = refl
unmarked_end q i (x ∷ xs) (m ∷ ms) (inl e) = absurd (omega arith)
unmarked_end q i (x ∷ xs) (m ∷ ms) (inr e) = absurd (omega arith)
