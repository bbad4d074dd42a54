-- What decoding says of messages within reach: an answer has found one, and a refusal by 13 says that there is none.
use Rattle.std.proofs.Common.{◌≡◌, ℕ, ◌+◌, Bool, true, false, cond, ◌&&◌, eqb, ltb, leb, List, [], ◌∷◌, length, Ok, Err, Result, sym, refl, ap, ◌∙◌, arith}
use Rattle.fields.specs.Checks.{Check, unless}
use Rattle.codes.specs.Checks.{when_fit, unmarked_check}
use Rattle.codes.specs.Faults.{number, unfit_number}
use Rattle.codes.specs.Meaning.{Meaning, Reached, Found, Decided, decode_check}
use Rattle.codes.specs.declared.fault.CodeFault.{CodeFault}
use Rattle.codes.specs.declared.fault.CodeFault.TheVariants.{Unfit, MessageLength, WordLength, Number, Scratch}
use Rattle.codes.specs.declared.fault.FitnessFault.{FitnessFault}
use Rattle.codes.specs.declared.fault.FitnessFault.TheVariants.{Length, Dimension, Point, Order, Trim, FieldSize, Multiplier}

pub found : (k : Check CodeFault) (M : Meaning) (need : ℕ) (rs ms old new s s' : List ℕ) (e : ℕ) → Decided k M need rs ms old new s s' (Ok e) → Found M rs ms new e
found (Ok u) M need rs ms old new s s' e d = d.solved
found (Err f) M need rs ms old new s s' e d =
    let refused : ◌≡◌ {A = Result ℕ CodeFault} (Ok e) (Err f) = d.answer in
    let never : ◌≡◌ {A = ℕ} 0 1 = cc in absurd (omega arith)

-- a check that fails does so by another number than 13
abbrev pub Before13 : Check CodeFault → Type 0
Before13 k = (f : CodeFault) → k ≡ Err f → number f ≡ 13 → ⊥

passed : Before13 (Ok tt)
passed f e n = let never : ◌≡◌ {A = ℕ} 0 1 = cc in omega arith

unfit-before : (f : FitnessFault) → unfit_number f ≡ 13 → ⊥
unfit-before Length n = omega arith
unfit-before Dimension n = omega arith
unfit-before (Point i) n = omega arith
unfit-before Order n = omega arith
unfit-before Trim n = omega arith
unfit-before FieldSize n = omega arith
unfit-before (Multiplier i) n = omega arith

fit-before : (k : Check FitnessFault) (later : Check CodeFault) → Before13 later → Before13 (when_fit k later)
fit-before (Ok u) later h f e n = h f e n
fit-before (Err g) later h f e n = let same : Unfit g ≡ f = cc in unfit-before g (ap number same ∙ n)

unless-before : (b : Bool) (fault : CodeFault) (later : Check CodeFault) → (number fault ≡ 13 → ⊥) → Before13 later → Before13 (unless b fault later)
unless-before true fault later a h f e n = h f e n
unless-before false fault later a h f e n = let same : fault ≡ f = cc in a (ap number same ∙ n)

either_before : (b : Bool) (l r : Check CodeFault) → Before13 l → Before13 r → Before13 (cond b l r)
either_before true l r h k = h
either_before false l r h k = k

unmarked_before : (q i : ℕ) (xs ms : List ℕ) → Before13 (unmarked_check q i xs ms)
unmarked_before q i [] ms = passed
unmarked_before q i (x ∷ xs) [] = passed
unmarked_before q i (x ∷ xs) (m ∷ ms) =
    let later = unmarked_before q (i + 1) xs ms in
    either_before (eqb m 0) _ _ (unless-before (ltb x q) (Number i) _ (λ n. omega arith) later) later

pub decode_before : (M : Meaning) (need : ℕ) (rs ms : List ℕ) (room lent : ℕ) → Before13 (decode_check M need rs ms room lent)
decode_before M need rs ms room lent =
    fit-before M.fitness _
    (unless-before (eqb (length rs) M.long && eqb (length ms) M.long) WordLength _ (λ n. omega arith)
    (unless-before (eqb room M.dimension) MessageLength _ (λ n. omega arith)
    (unless-before (leb need lent) Scratch _ (λ n. omega arith) (unmarked_before M.order 0 rs ms))))

pub lost : (k : Check CodeFault) (M : Meaning) (need : ℕ) (rs ms old new s s' : List ℕ) (f : CodeFault) → Before13 k → Decided k M need rs ms old new s s' (Err f) → number f ≡ 13 → (m : List ℕ) → Reached M rs ms m → ⊥
lost (Ok u) M need rs ms old new s s' f h d n = d.solved.none
lost (Err g) M need rs ms old new s s' f h d n =
    let refused : ◌≡◌ {A = Result ℕ CodeFault} (Err f) (Err g) = d.answer in
    let same : f ≡ g = cc in absurd (h g refl (sym (ap number same) ∙ n))
