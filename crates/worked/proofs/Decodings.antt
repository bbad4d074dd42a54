-- What a decoding answers, by a test computed at every message of the code.
use Rattle.std.proofs.Common.{◌≡◌, ℕ, ◌+◌, ◌-◌, ◌*◌, Bool, not, ◌&&◌, ◌||◌, T, eqb, leb, List, length, Ok, Err, Result, ap, ◌∙◌, inl, inr, arith, eqb→eq, leb→le}
use lib.Dec.{nleb→lt}
use Rattle.fields.specs.Computed.{and_left, and_right, or_cases}
use Rattle.codes.proofs.Passed.{passes, decided_ok, numbers-below}
use Rattle.codes.specs.Checks.{number_check, unmarked_check}
use Rattle.codes.specs.Meaning.{Meaning, Reached, Solved, decode_check}
use Rattle.codes.specs.Words.{wrong, missing}
use Rattle.codes.specs.declared.fault.CodeFault.{CodeFault}
use Rattle.codes.specs.declared.fault.CodeFault.TheVariants.{Reach}
use Rattle.worked.proofs.Tests.{ok, ok-is, equal, equal_is, every_message, message-at}
use Rattle.worked.specs.Examples.{Always}

-- what is received passes the checks of a decoding, but for those of the buffers
abbrev pub received : Meaning → List ℕ → List ℕ → Bool
received M rs ms = ok M.fitness && (eqb (length rs) M.long && (eqb (length ms) M.long && ok (unmarked_check M.order 0 rs ms)))

-- where it does, a decoding with buffers of the right lengths solves
solved : (M : Meaning) (rs ms : List ℕ) → T (received M rs ms) → (End : List ℕ → List ℕ → Result ℕ CodeFault → Type 0)
    → ((old new : List ℕ) (r : Result ℕ CodeFault) → Solved M rs ms old new r → End old new r) → Always M rs ms End
solved M rs ms h End ends need old new scr scr' r l n d =
    let fits = and_left (ok M.fitness) _ h in
    let h1 = and_right (ok M.fitness) _ h in
    let long = and_left (eqb (length rs) M.long) _ h1 in
    let h2 = and_right (eqb (length rs) M.long) _ h1 in
    let marked = and_left (eqb (length ms) M.long) _ h2 in
    let numbers = and_right (eqb (length ms) M.long) _ h2 in
    let chk = passes M need rs ms (length old) (length scr) (record {
      fits = ok-is M.fitness fits;
      received = eqb→eq _ _ long;
      marks = eqb→eq _ _ marked;
      message = l;
      scratch = n;
      numbers = ok-is (unmarked_check M.order 0 rs ms) numbers;
    }) in
    ends old new r (decided_ok (decode_check M need rs ms (length old) (length scr)) M need rs ms old new scr scr' r chk d).solved

-- a message is within the distance that decoding reaches
abbrev pub near : Meaning → List ℕ → List ℕ → List ℕ → Bool
near M rs ms m = leb (2 * wrong rs ms (M.word m) + missing ms) (M.distance - 1)

-- no message is within reach
abbrev pub none_near : Meaning → List ℕ → List ℕ → Bool
none_near M rs ms = every_message M.dimension M.order (λ x. not (near M rs ms x))

-- where no message is within reach, decoding refuses
pub refused : (M : Meaning) (rs ms : List ℕ) → T (received M rs ms) → T (none_near M rs ms)
    → Always M rs ms (λ old new r. (r ≡ Err Reach) × (new ≡ old))
refused M rs ms p test = solved M rs ms p (λ old new r. (r ≡ Err Reach) × (new ≡ old)) ends where
  none : (m : List ℕ) → Reached M rs ms m → ⊥
  none m h =
      let lt = nleb→lt _ _ (message-at M.dimension M.order (λ x. not (near M rs ms x)) test m h.message.long h.message.below) in
      let close = h.near in
      omega arith

  ends : (old new : List ℕ) (r : Result ℕ CodeFault) → Solved M rs ms old new r → (r ≡ Err Reach) × (new ≡ old)
  ends old new (Ok e) s = absurd (none new s.reached)
  ends old new (Err f) s = (ap Err s.fault, s.unchanged)

-- a message of the code
abbrev pub message : Meaning → List ℕ → Bool
message M m = eqb (length m) M.dimension && ok (number_check M.order 0 m)

-- a message within reach with e wrong numbers, and every other one is not
abbrev pub only_near : Meaning → List ℕ → List ℕ → List ℕ → ℕ → Bool
only_near M rs ms m e =
    message M m && (near M rs ms m && (eqb (wrong rs ms (M.word m)) e && every_message M.dimension M.order (λ x. not (near M rs ms x) || equal x m)))

-- where just one message is within reach, decoding gives it and its count of wrong numbers
pub decoded : (M : Meaning) (rs ms m : List ℕ) (e : ℕ) → T (received M rs ms) → T (only_near M rs ms m e)
    → Always M rs ms (λ old new r. (r ≡ Ok e) × (new ≡ m))
decoded M rs ms m e p h = solved M rs ms p (λ old new r. (r ≡ Ok e) × (new ≡ m)) ends where
  others : T (near M rs ms m && (eqb (wrong rs ms (M.word m)) e && every_message M.dimension M.order (λ x. not (near M rs ms x) || equal x m)))
  others = and_right (message M m) _ h

  counts : T (eqb (wrong rs ms (M.word m)) e && every_message M.dimension M.order (λ x. not (near M rs ms x) || equal x m))
  counts = and_right (near M rs ms m) _ others

  counted : wrong rs ms (M.word m) ≡ e
  counted = eqb→eq _ _ (and_left (eqb (wrong rs ms (M.word m)) e) _ counts)

  reached : Reached M rs ms m
  reached = record {
    message = record {
      long = eqb→eq _ _ (and_left (eqb (length m) M.dimension) _ (and_left (message M m) _ h));
      below = numbers-below M.order 0 m (ok-is (number_check M.order 0 m) (and_right (eqb (length m) M.dimension) _ (and_left (message M m) _ h)));
    };
    near = leb→le _ _ (and_left (near M rs ms m) _ others);
  }

  only : (x : List ℕ) → Reached M rs ms x → x ≡ m
  only x r =
      elim (or_cases (not (near M rs ms x)) (equal x m) (message-at M.dimension M.order (λ y. not (near M rs ms y) || equal y m) (and_right (eqb (wrong rs ms (M.word m)) e) _ counts) x r.message.long r.message.below)) [
        | inl t ↦ (let lt = nleb→lt _ _ t in let close = r.near in absurd (omega arith))
        | inr t ↦ equal_is x m t
      ]

  ends : (old new : List ℕ) (r : Result ℕ CodeFault) → Solved M rs ms old new r → (r ≡ Ok e) × (new ≡ m)
  ends old new (Ok e') s =
      let found = only new s.reached in
      (ap Ok (s.counted ∙ ap (λ (x : List ℕ). wrong rs ms (M.word x)) found ∙ counted), found)
  ends old new (Err f) s = absurd (s.none m reached)
