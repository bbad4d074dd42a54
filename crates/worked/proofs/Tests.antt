-- Tests that are computed, and what they give: of checks, of lists, and at every message of k numbers below q.
use Rattle.std.proofs.Common.{◌≡◌, ℕ, zero, suc, Bool, true, false, ◌&&◌, T, eqb, List, [], ◌∷◌, length, Some, None, Ok, Err, Option, refl, ap, arith, eqb→eq}
use Rattle.std.proofs.lemmas.Bool.Decides.{nat_tests}
use Rattle.fields.specs.Computed.{every, every-at, and_left, and_right}
use Rattle.fields.specs.Checks.{Check}
use Rattle.fields.specs.Numbers.{Below, differ}

-- a check passed
abbrev pub ok : {Fault : Type 0} → Check Fault → Bool
ok (Ok u) = true
ok (Err f) = false

pub ok-is : {Fault : Type 0} (c : Check Fault) → T (ok c) → c ≡ Ok tt
ok-is (Ok u) h = refl
ok-is (Err f) h = absurd h

-- two lists are equal
abbrev pub equal : List ℕ → List ℕ → Bool
equal xs ys = eqb (length xs) (length ys) && eqb (differ xs ys) 0

undiffering : (xs ys : List ℕ) → length xs ≡ length ys → differ xs ys ≡ 0 → xs ≡ ys
undiffering [] [] l d = refl
undiffering [] (y ∷ ys) l d = absurd (omega arith)
undiffering (x ∷ xs) [] l d = absurd (omega arith)
undiffering (x ∷ xs) (y ∷ ys) l d =
    let here : x ≡ y = grind (arith, nat_tests) in
    let rest : differ xs ys ≡ 0 = omega arith in
    let tail = undiffering xs ys (omega arith) rest in
    cc

pub equal_is : (xs ys : List ℕ) → T (equal xs ys) → xs ≡ ys
equal_is xs ys h =
    undiffering xs ys (eqb→eq (length xs) (length ys) (and_left (eqb (length xs) (length ys)) (eqb (differ xs ys) 0) h)) (eqb→eq (differ xs ys) 0 (and_right (eqb (length xs) (length ys)) (eqb (differ xs ys) 0) h))

-- two optional numbers are equal
abbrev pub equal_option : Option ℕ → Option ℕ → Bool
equal_option None None = true
equal_option None (Some b) = false
equal_option (Some a) None = false
equal_option (Some a) (Some b) = eqb a b

pub equal_option-is : (x y : Option ℕ) → T (equal_option x y) → x ≡ y
equal_option-is None None h = refl
equal_option-is None (Some b) h = absurd h
equal_option-is (Some a) None h = absurd h
equal_option-is (Some a) (Some b) h = ap Some (eqb→eq a b h)

-- a test passes at every message of k numbers below q
abbrev pub every_message : (k q : ℕ) → (List ℕ → Bool) → Bool
every_message zero q t = t []
every_message (suc k) q t = every (λ x. every_message k q (λ m. t (x ∷ m))) q

pub message-at : (k q : ℕ) (t : List ℕ → Bool) → T (every_message k q t) → (m : List ℕ) → length m ≡ k → Below q m → T (t m)
message-at zero q t h [] l b = h
message-at zero q t h (x ∷ m) l b = absurd (omega arith)
message-at (suc k) q t h [] l b = absurd (omega arith)
message-at (suc k) q t h (x ∷ m) l b =
    message-at k q (λ m'. t (x ∷ m')) (every-at (λ y. every_message k q (λ m'. t (y ∷ m'))) q h x b.0) m (omega arith) b.1
