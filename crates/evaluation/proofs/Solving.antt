-- The checks of the solver and of the division pass, and what a check for zeros says.
use Rattle.std.proofs.Common.{◌≡◌, ℕ, zero, suc, ◌+◌, ◌*◌, ◌<◌, ◌≤◌, Bool, true, false, eqb, ltb, leb, List, [], ◌∷◌, length, take, drop, None, Ok, Err, refl, subst, ◌∙◌, suc-mul, arith, length-drop}
use Rattle.std.proofs.ByRecursion.{All-append}
use Rattle.std.proofs.lemmas.List.{take-append-drop}
use Rattle.std.proofs.lemmas.Bool.{lt-leb}
use Rattle.std.proofs.lemmas.Bool.Decides.{nat_tests}
use Rattle.std.proofs.lemmas.Iterator.Adapters.{position_from-zero}
use Rattle.std.specs.List.{position_from}
use Rattle.fields.specs.Numbers.{Below, Zeros}
use Rattle.fields.specs.Checks.{stray}
use Rattle.linear.specs.Checks.{nonzero}
use Rattle.linear.specs.Division.{divide_check}
use Rattle.linear.specs.Equations.{row, solve_check}
use Rattle.linear.proofs.Grid.{row_zero, row-suc}
use Rattle.codes.specs.Checks.{zero_check}
use Rattle.codes.specs.declared.fault.CodeFault.{CodeFault}
use Rattle.codes.specs.declared.fault.CodeFault.TheVariants.{Reach}

none-from : (q i : ℕ) (xs : List ℕ) → Below q xs → position_from (λ x. leb q x) i xs ≡ None
none-from q i [] h = refl
none-from q i (x ∷ xs) h = let l = h.0 in let t : leb q x ≡ false = lt-leb q x l in rw t (none-from q (i + 1) xs h.1)

stray-none : (q : ℕ) (xs : List ℕ) → Below q xs → stray q xs ≡ None
stray-none q xs h = position_from-zero (λ x. leb q x) xs ∙ none-from q 0 xs h

nonzero-true : (xs : List ℕ) → (Zeros xs → ⊥) → nonzero xs ≡ true
nonzero-true [] h = absurd (h tt)
nonzero-true (x ∷ xs) h = go (eqb x 0) refl (λ n. nonzero-true xs n)
  where
    go : (b : Bool) → eqb x 0 ≡ b → ((Zeros xs → ⊥) → nonzero xs ≡ true) → nonzero (x ∷ xs) ≡ true
    go true e rest = let is : x ≡ 0 = grind (arith, nat_tests) in let r = rest (λ z. h (is, z)) in grind (arith, nat_tests)
    go false e rest = grind (arith, nat_tests)

pub divide_passes : (q : ℕ) (p s : List ℕ) (room : ℕ) → room ≡ length p → Below q p → Below q s → (Zeros s → ⊥) → divide_check q p s room ≡ Ok tt
divide_passes q p s room e hp hs nz =
    let a = stray-none q p hp in
    let b = stray-none q s hs in
    let c = nonzero-true s nz in
    let t : eqb room (length p) ≡ true = grind (arith, nat_tests) in
    rw t (rw a (rw b (rw c refl)))

pub solve_passes : (q : ℕ) (s : List ℕ) (n w : ℕ) → n < w → (n + 1) * w ≤ length s → Below q (take (n * w) s) → solve_check q s n w ≡ Ok tt
solve_passes q s n w a b h =
    let c = stray-none q (take (n * w) s) h in
    let t : ltb n w ≡ true = grind (arith, nat_tests) in
    let u : leb ((n + 1) * w) (length s) ≡ true = grind (arith, nat_tests) in
    rw t (rw u (rw c refl))

-- numbers whose rows are all below q are below q
pub rows_below : (q w n : ℕ) (s : List ℕ) → n * w ≡ length s → ((i : ℕ) → i < n → Below q (row w i s)) → Below q s
rows_below q w zero [] e h = tt
rows_below q w zero (x ∷ s) e h = absurd (omega arith)
rows_below q w (suc n) s e h =
    subst (Below q) (take-append-drop w s)
    (All-append (λ x. x < q) (take w s) (drop w s) (subst (Below q) (row_zero w s) (h 0 (omega arith)))
    (rows_below q w n (drop w s) (omega (arith, length-drop w s, suc-mul n w, e)) (λ i l. subst (Below q) (row-suc w i s) (h (suc i) (omega arith)))))

pub zeros_passed : (xs : List ℕ) → zero_check xs ≡ Ok tt → Zeros xs
zeros_passed [] e = tt
zeros_passed (x ∷ xs) e =
    let t : zero_check xs ≡ Ok tt = grind (arith, nat_tests) in
    (grind (arith, nat_tests), zeros_passed xs t)

pub zeros_fault : (xs : List ℕ) (f : CodeFault) → zero_check xs ≡ Err f → (f ≡ Reach) × (Zeros xs → ⊥)
zeros_fault [] f e = let z : ◌≡◌ {A = ℕ} 0 1 = cc in absurd (omega arith)
zeros_fault (x ∷ xs) f e = go (eqb x 0) refl (λ t. zeros_fault xs f t)
  where
    go : (b : Bool) → eqb x 0 ≡ b → (zero_check xs ≡ Err f → (f ≡ Reach) × (Zeros xs → ⊥)) → (f ≡ Reach) × (Zeros (x ∷ xs) → ⊥)
    go true h rest = let t : zero_check xs ≡ Err f = rw h at e in let r = rest t in (r.0, λ z. r.1 z.1)
    go false h rest = let t : ◌≡◌ {A = _} (Err Reach) (Err f) = rw h at e in (cc, λ z. let n = z.0 in grind (arith, nat_tests))
