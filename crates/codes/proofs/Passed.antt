-- What passing the checks of a call says, and the other way round.
use Rattle.std.proofs.Common.{◌≡◌, ℕ, zero, suc, ◌+◌, ◌<◌, ◌≤◌, ◌&&◌, eqb, leb, List, [], ◌∷◌, length, get_or, drop, Ok, Err, Result, refl, arith}
use Rattle.std.proofs.lemmas.Bool.Decides.{nat_tests}
use Rattle.fields.specs.Numbers.{Below}
use Rattle.fields.specs.Checks.{Check, unless}
use Rattle.codes.specs.Checks.{when_fit, number_check, unmarked_check}
use Rattle.codes.specs.Meaning.{Meaning, Message, issue_check, decode_check, Solved, Accepted, Decided}
use Rattle.codes.specs.declared.fault.CodeFault.{CodeFault}
use Rattle.codes.specs.declared.fault.CodeFault.TheVariants.{MessageLength, WordLength, Scratch}
use Rattle.codes.specs.declared.fault.FitnessFault.{FitnessFault}

pub numbers-below : (q i : ℕ) (xs : List ℕ) → number_check q i xs ≡ Ok tt → Below q xs
numbers-below q i [] e = tt
numbers-below q i (x ∷ xs) e =
    let h : x < q = grind (arith, nat_tests) in
    let t : number_check q (i + 1) xs ≡ Ok tt = grind (arith, nat_tests) in
    (h, numbers-below q (i + 1) xs t)

pub below-numbers : (q i : ℕ) (xs : List ℕ) → Below q xs → number_check q i xs ≡ Ok tt
below-numbers q i [] h = refl
below-numbers q i (x ∷ xs) h = let r = below-numbers q (i + 1) xs h.1 in let l = h.0 in grind (arith, nat_tests)

pub unmarked_below : (q i : ℕ) (rs ms : List ℕ) → unmarked_check q i rs ms ≡ Ok tt → length rs ≡ length ms
    → (j : ℕ) → j < length rs → get_or ms j 0 ≡ 0 → get_or rs j 0 < q
unmarked_below q i [] ms e l j h m = absurd (omega arith)
unmarked_below q i (r ∷ rs) [] e l j h m = absurd (omega arith)
unmarked_below q i (r ∷ rs) (x ∷ xs) e l zero h m = grind (arith, nat_tests)
unmarked_below q i (r ∷ rs) (x ∷ xs) e l (suc j) h m =
    let e' : unmarked_check q (i + 1) rs xs ≡ Ok tt = grind (arith, nat_tests) in
    unmarked_below q (i + 1) rs xs e' (omega arith) j (omega arith) m

-- what an issue that passes its checks has passed
pub record Issuable (M : Meaning) (m : List ℕ) (room : ℕ) : Type 0 where
  pub fits : M.fitness ≡ Ok tt
  pub message : Message M m
  pub word : room ≡ M.long

split_issue : (f : Check FitnessFault) (q n k : ℕ) (m : List ℕ) (room : ℕ)
    → when_fit f (unless (eqb (length m) k) MessageLength (unless (eqb room n) WordLength (number_check q 0 m))) ≡ Ok tt
    → (f ≡ Ok tt) × (length m ≡ k) × (room ≡ n) × (number_check q 0 m ≡ Ok tt)
split_issue (Ok u) q n k m room e = (refl, grind (arith, nat_tests), grind (arith, nat_tests), grind (arith, nat_tests))
split_issue (Err f) q n k m room e = let z : ◌≡◌ {A = ℕ} 0 1 = cc in absurd (omega arith)

pub issuable : (M : Meaning) (m : List ℕ) (room : ℕ) → issue_check M m room ≡ Ok tt → Issuable M m room
issuable M m room e =
    let p = split_issue M.fitness M.order M.long M.dimension m room e in
    record { fits = p.0; message = record { long = p.1; below = numbers-below M.order 0 m p.3 }; word = p.2 }

join_issue : (f : Check FitnessFault) (q n k : ℕ) (m : List ℕ) (room : ℕ) → f ≡ Ok tt → length m ≡ k → room ≡ n → number_check q 0 m ≡ Ok tt
    → when_fit f (unless (eqb (length m) k) MessageLength (unless (eqb room n) WordLength (number_check q 0 m))) ≡ Ok tt
join_issue (Ok u) q n k m room e a b c = grind (arith, nat_tests)
join_issue (Err f) q n k m room e a b c = let z : ◌≡◌ {A = ℕ} 0 1 = cc in absurd (omega arith)

pub issues : (M : Meaning) (m : List ℕ) (room : ℕ) → Issuable M m room → issue_check M m room ≡ Ok tt
issues M m room p = join_issue M.fitness M.order M.long M.dimension m room p.fits p.message.long p.word (below-numbers M.order 0 m p.message.below)

-- what a decode that passes its checks has passed
pub record Passed (M : Meaning) (need : ℕ) (rs ms : List ℕ) (room lent : ℕ) : Type 0 where
  pub fits : M.fitness ≡ Ok tt
  pub received : length rs ≡ M.long
  pub marks : length ms ≡ M.long
  pub message : room ≡ M.dimension
  pub scratch : need ≤ lent
  pub numbers : unmarked_check M.order 0 rs ms ≡ Ok tt

split_decode : (f : Check FitnessFault) (q n k need : ℕ) (rs ms : List ℕ) (room lent : ℕ)
    → when_fit f (unless (eqb (length rs) n && eqb (length ms) n) WordLength (unless (eqb room k) MessageLength (unless (leb need lent) Scratch (unmarked_check q 0 rs ms)))) ≡ Ok tt
    → (f ≡ Ok tt) × (length rs ≡ n) × (length ms ≡ n) × (room ≡ k) × (need ≤ lent) × (unmarked_check q 0 rs ms ≡ Ok tt)
split_decode (Ok u) q n k need rs ms room lent e = (refl, grind (arith, nat_tests), grind (arith, nat_tests), grind (arith, nat_tests), grind (arith, nat_tests), grind (arith, nat_tests))
split_decode (Err f) q n k need rs ms room lent e = let z : ◌≡◌ {A = ℕ} 0 1 = cc in absurd (omega arith)

pub passed : (M : Meaning) (need : ℕ) (rs ms : List ℕ) (room lent : ℕ) → decode_check M need rs ms room lent ≡ Ok tt → Passed M need rs ms room lent
passed M need rs ms room lent e =
    let p = split_decode M.fitness M.order M.long M.dimension need rs ms room lent e in
    record { fits = p.0; received = p.1; marks = p.2; message = p.3; scratch = p.4; numbers = p.5 }

join_decode : (f : Check FitnessFault) (q n k need : ℕ) (rs ms : List ℕ) (room lent : ℕ)
    → f ≡ Ok tt → length rs ≡ n → length ms ≡ n → room ≡ k → need ≤ lent → unmarked_check q 0 rs ms ≡ Ok tt
    → when_fit f (unless (eqb (length rs) n && eqb (length ms) n) WordLength (unless (eqb room k) MessageLength (unless (leb need lent) Scratch (unmarked_check q 0 rs ms)))) ≡ Ok tt
join_decode (Ok u) q n k need rs ms room lent e a b c d h = grind (arith, nat_tests)
join_decode (Err f) q n k need rs ms room lent e a b c d h = let z : ◌≡◌ {A = ℕ} 0 1 = cc in absurd (omega arith)

pub passes : (M : Meaning) (need : ℕ) (rs ms : List ℕ) (room lent : ℕ) → Passed M need rs ms room lent → decode_check M need rs ms room lent ≡ Ok tt
passes M need rs ms room lent p =
    join_decode M.fitness M.order M.long M.dimension need rs ms room lent p.fits p.received p.marks p.message p.scratch p.numbers

-- what decoding did where the checks passed
pub decided_ok : (chk : Check CodeFault) (M : Meaning) (need : ℕ) (rs ms old new scr scr' : List ℕ) (r : Result ℕ CodeFault)
    → chk ≡ Ok tt → Decided chk M need rs ms old new scr scr' r → Accepted M need rs ms old new scr scr' r
decided_ok (Ok u) M need rs ms old new scr scr' r e h = h
decided_ok (Err f) M need rs ms old new scr scr' r e h = let z : ◌≡◌ {A = ℕ} 0 1 = cc in absurd (omega arith)

-- and what is to show there
pub decided_from : (chk : Check CodeFault) (M : Meaning) (need : ℕ) (rs ms old new scr scr' : List ℕ) (r : Result ℕ CodeFault)
    → chk ≡ Ok tt → Solved M rs ms old new r → drop need scr' ≡ drop need scr → Decided chk M need rs ms old new scr scr' r
decided_from (Ok u) M need rs ms old new scr scr' r e h k = record { solved = h; rest = k }
decided_from (Err f) M need rs ms old new scr scr' r e h k = let z : ◌≡◌ {A = ℕ} 0 1 = cc in absurd (omega arith)
