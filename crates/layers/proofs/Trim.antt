-- What trimming does to messages, words and reach.
use Rattle.std.proofs.Common.{◌≡◌, ℕ, zero, suc, ◌+◌, ◌-◌, ◌<◌, Bool, true, false, eqb, ltb, ◌⊎◌, List, [], ◌∷◌, ◌++◌, length, take, drop, replicate, Ok, Err, Result, sym, refl, ap, ◌∙◌, subst, inl, inr, append_assoc, arith, length-append, length-drop, take-append-drop, length-take}
use lib.ListN.{length-replicate, replicate-append-replicate}
use Rattle.std.proofs.ByRecursion.{All-take}
use Rattle.std.proofs.lemmas.List.{drop_at, take_at, take-take}
use Rattle.std.proofs.lemmas.Bool.Decides.{nat_tests}
use Rattle.codes.proofs.Passed.{Passed, passed, passes, issuable, issues, decided_ok}
use Rattle.codes.proofs.Reach.{one-reached}
use Rattle.fields.specs.Checks.{Check, unless, and_then}
use Rattle.codes.specs.Lists.{filled}
use Rattle.codes.specs.Meaning.{Meaning, Reached, Sound, issue_check, decode_check, Solved, Found, OutOfReach, Accepted, Decoded}
use Rattle.codes.specs.declared.fault.CodeFault.{CodeFault}
use Rattle.codes.specs.declared.fault.CodeFault.TheVariants.{Reach}
use Rattle.codes.specs.declared.fault.FitnessFault.{FitnessFault}
use Rattle.codes.specs.declared.fault.FitnessFault.TheVariants.{Trim}
use Rattle.layers.specs.Made.{Trims}
use Rattle.codes.specs.Checks.{zero_check}
use Rattle.layers.specs.Trimmed.{trimmed}
use Rattle.layers.specs.TrimmedSound.{fit-below, padded, trimmed-sound}

zeros_pass : (z : ℕ) → zero_check (replicate z 0) ≡ Ok tt
zeros_pass zero = refl
zeros_pass (suc z) = let i = zeros_pass z in grind (arith, nat_tests)

passed_zeros : (xs : List ℕ) → zero_check xs ≡ Ok tt → xs ≡ replicate (length xs) 0
passed_zeros [] e = refl
passed_zeros (x ∷ xs) e =
    let h : x ≡ 0 = grind (arith, nat_tests) in
    let t : zero_check xs ≡ Ok tt = grind (arith, nat_tests) in
    let i = passed_zeros xs t in
    cc

-- the check has one fault only
zeros_fault : (xs : List ℕ) (f : CodeFault) → zero_check xs ≡ Err f → f ≡ Reach
zeros_fault [] f e = let z : ◌≡◌ {A = ℕ} 0 1 = cc in absurd (omega arith)
zeros_fault (x ∷ xs) f e =
    let i = zeros_fault xs f in
    elim (test (eqb x 0)) [ inl h ↦ i (rw h at e) | inr h ↦ let e' : ◌≡◌ {A = Check CodeFault} (Err Reach) (Err f) = rw h at e in cc ]
  where
    test : (b : Bool) → (b ≡ true) ⊎ (b ≡ false)
    test true = inl refl
    test false = inr refl

join_fit : (f : Check FitnessFault) (k z : ℕ) → f ≡ Ok tt → z < k → and_then f (unless (ltb z k) Trim (Ok tt)) ≡ Ok tt
join_fit (Ok u) k z e h = grind (arith, nat_tests)
join_fit (Err f) k z e h = let z : ◌≡◌ {A = ℕ} 0 1 = cc in absurd (omega arith)

module _ (z : ℕ) (M : Meaning) (s : Sound M) (some : z < M.dimension) where
  wider : (rs ms m : List ℕ) → Reached (trimmed z M) rs ms m → Reached M rs ms (m ++ replicate z 0)
  wider rs ms m h = record { message = padded z M s some m h.message; near = h.near }

  -- a message of the code below that ends in zeros is, without them, one of the trimmed code
  narrower : (rs ms whole : List ℕ) → zero_check (drop (M.dimension - z) whole) ≡ Ok tt → Reached M rs ms whole
      → Reached (trimmed z M) rs ms (take (M.dimension - z) whole) × (take (M.dimension - z) whole ++ replicate z 0 ≡ whole)
  narrower rs ms whole e h =
      let l = h.message.long in
      let k = M.dimension - z in
      let rest : length (drop k whole) ≡ z = simp length-drop (omega arith) in
      let r : drop k whole ≡ replicate z 0 = passed_zeros (drop k whole) e ∙ ap (λ (i : ℕ). replicate i 0) rest in
      let all : take k whole ++ replicate z 0 ≡ whole = ap (λ (t : List ℕ). take k whole ++ t) (sym r) ∙ take-append-drop k whole in (
        record {
          message = record { long = simp length-take (omega arith); below = All-take (λ x. x < M.order) k whole h.message.below };
          near = rw all h.near;
        },
        all,
      )

  -- where the message of the code below does not end in zeros, the trimmed code has none
  none_left : (rs ms whole : List ℕ) → length rs ≡ M.long → length ms ≡ M.long → (zero_check (drop (M.dimension - z) whole) ≡ Ok tt → ⊥)
      → Reached M rs ms whole → (m : List ℕ) → Reached (trimmed z M) rs ms m → ⊥
  none_left rs ms whole a b ne h m h' =
      one-reached {M = M} rs ms whole (m ++ replicate z 0) s a b h (wider rs ms m h')
      (λ e. ne (ap (λ (t : List ℕ). zero_check (drop (M.dimension - z) t)) e ∙ ap zero_check (drop_at m (replicate z 0) (M.dimension - z) h'.message.long) ∙ zeros_pass z))

-- a decoding by the code below, under the checks of the trimmed code
module _ (z : ℕ) (M : Meaning) (law : M.fitness ≡ Ok tt → Sound M) (need : ℕ) (rs ms : List ℕ) (room : ℕ) (old new scr scr' : List ℕ) (r : Result ℕ CodeFault)
    (ok : decode_check (trimmed z M) need rs ms room (length scr) ≡ Ok tt) (long : length old ≡ M.dimension) (done : Decoded M need rs ms old new scr scr' r) where
  all_passed : Passed (trimmed z M) need rs ms room (length scr)
  all_passed = passed (trimmed z M) need rs ms room (length scr) ok

  fits : (M.fitness ≡ Ok tt) × (z < M.dimension)
  fits = fit-below z M all_passed.fits

  below : Accepted M need rs ms old new scr scr' r
  below =
      decided_ok (decode_check M need rs ms (length old) (length scr)) M need rs ms old new scr scr' r
      (passes M need rs ms (length old) (length scr) record {
        fits = fits.0;
        received = all_passed.received;
        marks = all_passed.marks;
        message = long;
        scratch = all_passed.scratch;
        numbers = all_passed.numbers;
      }) done

  -- the code below finds no message
  pub none_below : (f : CodeFault) (kept : List ℕ) → r ≡ Err f → Accepted (trimmed z M) need rs ms kept kept scr scr' (Err f)
  none_below f kept e =
      let s : OutOfReach M rs ms old new f = subst (Solved M rs ms old new) e below.solved in
      record {
        solved = record { fault = s.fault; unchanged = refl; none = λ m h. s.none (m ++ replicate z 0) (wider z M (law fits.0) fits.1 rs ms m h) };
        rest = below.rest;
      }

  -- the message of the code below ends in zeros
  pub zeros_below : (e : ℕ) (kept : List ℕ) → r ≡ Ok e → zero_check (drop room new) ≡ Ok tt → Accepted (trimmed z M) need rs ms kept (take room new) scr scr' (Ok e)
  zeros_below e kept i h =
      let s : Found M rs ms new e = subst (Solved M rs ms old new) i below.solved in
      let a = all_passed.message in
      let h' : zero_check (drop (M.dimension - z) new) ≡ Ok tt = subst (λ (k : ℕ). zero_check (drop k new) ≡ Ok tt) a h in
      let t = narrower z M (law fits.0) fits.1 rs ms new h' s.reached in
      record { solved = rw a (record { reached = t.0; counted = rw t.1 s.counted }); rest = below.rest }

  -- the message of the code below does not end in zeros
  pub others_below : (e : ℕ) (f : CodeFault) (kept : List ℕ) → r ≡ Ok e → zero_check (drop room new) ≡ Err f → Accepted (trimmed z M) need rs ms kept kept scr scr' (Err f)
  others_below e f kept i h =
      let s : Found M rs ms new e = subst (Solved M rs ms old new) i below.solved in
      let h' : zero_check (drop (M.dimension - z) new) ≡ Err f = subst (λ (k : ℕ). zero_check (drop k new) ≡ Err f) all_passed.message h in
      record {
        solved = record {
          fault = zeros_fault (drop room new) f h;
          unchanged = refl;
          none = none_left z M (law fits.0) fits.1 rs ms new all_passed.received all_passed.marks (λ g. let z : ◌≡◌ {A = ℕ} 0 1 = cc in omega arith) s.reached;
        };
        rest = below.rest;
      }

-- the message with the zeros is issued by the code below, and stands at the front of the array
pub issue_below : (z : ℕ) (M : Meaning) → (M.fitness ≡ Ok tt → Sound M) → (m : List ℕ) (room : ℕ) → issue_check (trimmed z M) m room ≡ Ok tt
    → (issue_check M (m ++ replicate z 0) room ≡ Ok tt) × (take M.dimension (filled 128 m) ≡ m ++ replicate z 0)
issue_below z M law m room e =
    let i = issuable (trimmed z M) m room e in
    let p = fit-below z M i.fits in
    let s = law p.0 in
    let K = M.dimension in
    let l = i.message.long in
    let hi = s.dimension_high in
    let top = s.length_high in
    let some = p.1 in
    let whole : length (m ++ replicate z 0) ≡ K = simp (length-append, length-replicate) (omega arith) in
    let more : replicate 128 0 ≡ replicate z 0 ++ replicate (128 - z) 0 = (let e : 128 ≡ z + (128 - z) = omega arith in ap {B = List ℕ} (λ (k : ℕ). replicate k 0) e) ∙ sym (replicate-append-replicate z (128 - z) 0) in (
      issues M (m ++ replicate z 0) room record { fits = p.0; message = padded z M s p.1 m i.message; word = i.word },
      take-take K 128 (m ++ replicate 128 0) (omega arith)
          ∙ ap (λ (t : List ℕ). take K (m ++ t)) more
          ∙ ap (take K) (sym (append_assoc m (replicate z 0) (replicate (128 - z) 0)))
          ∙ take_at (m ++ replicate z 0) (replicate (128 - z) 0) K whole,
    )

-- the code's meaning in plain words
pub trims : (z : ℕ) (B : Meaning) → (B.fitness ≡ Ok tt → Sound B) → Trims z B (trimmed z B)
trims z B law = record {
  fit = (fit-below z B, λ h. join_fit B.fitness B.dimension z h.0 h.1);
  order = refl;
  long = refl;
  dimension = refl;
  distance = refl;
  word = λ m. refl;
  sound = λ e. (let p = fit-below z B e in trimmed-sound z B (law p.0) p.1);
}
