-- The wrong and the missing places, over the places that are not marked.
use Rattle.std.specs.Prelude.{◌≡◌, ℕ, zero, suc, ◌+◌, ◌<◌, cond, List, [], ◌∷◌, map, length, Ok, ◌==◌, refl}
use Rattle.std.proofs.Common.{arith}
use Rattle.std.proofs.lemmas.Bool.Decides.{nat_tests}
use Rattle.fields.specs.Numbers.{Below, differ}
use Rattle.codes.specs.Checks.{unmarked_check}
use Rattle.codes.specs.Words.{missing, wrong}
use Rattle.evaluation.specs.Decoding.{present}

-- the places that are not marked and those that are make up all
pub length-present : (ms xs : List ℕ) → length xs ≡ length ms → length (present ms xs) + missing ms ≡ length ms
length-present [] [] e = refl
length-present [] (x ∷ xs) e = absurd (omega arith)
length-present (m ∷ ms) [] e = absurd (omega arith)
length-present (zero ∷ ms) (x ∷ xs) e = omega (arith, length-present ms xs (omega arith))
length-present (suc m ∷ ms) (x ∷ xs) e =
    let o : cond {A = ℕ} (suc m == 0) 0 1 ≡ 1 = grind (arith, nat_tests) in omega (arith, length-present ms xs (omega arith))

turned : (x y : ℕ) → cond {A = ℕ} (x == y) 0 1 ≡ cond (y == x) 0 1
turned x y = grind (arith, nat_tests)

pub same_wrong : (f : ℕ → ℕ) (ps rs ms : List ℕ) → length ps ≡ length ms → length rs ≡ length ms → differ (map f (present ms ps)) (present ms rs) ≡ wrong rs ms (map f ps)
same_wrong f [] [] [] a b = refl
same_wrong f [] (r ∷ rs) [] a b = absurd (omega arith)
same_wrong f (p ∷ ps) rs [] a b = absurd (omega arith)
same_wrong f [] rs (m ∷ ms) a b = absurd (omega arith)
same_wrong f (p ∷ ps) [] (m ∷ ms) a b = absurd (omega arith)
same_wrong f (p ∷ ps) (r ∷ rs) (zero ∷ ms) a b = omega (arith, turned (f p) r, same_wrong f ps rs ms (omega arith) (omega arith))
same_wrong f (p ∷ ps) (r ∷ rs) (suc m ∷ ms) a b =
    let o : cond {A = ℕ} (suc m == 0) (cond (r == f p) 0 1) 0 ≡ 0 = grind (arith, nat_tests) in omega (arith, same_wrong f ps rs ms (omega arith) (omega arith))

pub unmarked_present : (q i : ℕ) (rs ms : List ℕ) → unmarked_check q i rs ms ≡ Ok tt → Below q (present ms rs)
unmarked_present q i [] [] e = tt
unmarked_present q i [] (m ∷ ms) e = tt
unmarked_present q i (r ∷ rs) [] e = tt
unmarked_present q i (r ∷ rs) (zero ∷ ms) e =
    let h : r < q = grind (arith, nat_tests) in
    let t : unmarked_check q (i + 1) rs ms ≡ Ok tt = grind (arith, nat_tests) in
    (h, unmarked_present q (i + 1) rs ms t)
unmarked_present q i (r ∷ rs) (suc m ∷ ms) e =
    let t : unmarked_check q (i + 1) rs ms ≡ Ok tt = grind (arith, nat_tests) in
    unmarked_present q (i + 1) rs ms t
