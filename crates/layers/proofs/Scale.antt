-- What scaling does to words and reach.
use Rattle.std.proofs.Common.{◌≡◌, ℕ, ◌+◌, ◌<◌, ◌≤◌, ◌&&◌, eqb, ltb, leb, List, [], ◌∷◌, length, get_or, drop, Ok, Err, Result, sym, refl, ◌∙◌, subst, ap₂, arith}
use Rattle.std.proofs.ByRecursion.{All-get_or}
use Rattle.std.proofs.lemmas.List.{at_drop_more}
use Rattle.std.proofs.lemmas.Bool.Decides.{nat_tests}
use Rattle.fields.proofs.Total.{total-laws, counted_same}
use Rattle.fields.specs.Arithmetic.{Arithmetic, total}
use Rattle.fields.specs.Laws.{Laws}
use Rattle.fields.specs.Numbers.{Below}
use Rattle.codes.proofs.Passed.{passes, decided_ok, decided_from}
use Rattle.fields.specs.Checks.{Check, unless, and_then}
use Rattle.codes.specs.Checks.{unmarked_check}
use Rattle.codes.specs.Meaning.{Meaning, Message, Reached, Sound, decode_check, Solved, Decoded}
use Rattle.codes.specs.Words.{wrong}
use Rattle.codes.specs.declared.fault.CodeFault.{CodeFault}
use Rattle.codes.specs.declared.fault.FitnessFault.{FitnessFault}
use Rattle.codes.specs.declared.fault.FitnessFault.TheVariants.{Length, FieldSize, Multiplier}
use Rattle.layers.specs.Products.{get_or-products, length-quotients, wrong-quotients, quotients-pass}
use Rattle.layers.specs.Made.{Scales}
use Rattle.layers.specs.ScaledSound.{Scaling, scaling, units, scaled-sound}
use Rattle.layers.specs.Scaled.{multiplier_check, products, quotients, Units, scaled}

-- one step of the check of multipliers
pub multipliers_more : (q : ℕ) (xs : List ℕ) (i : ℕ) → i < length xs
    → multiplier_check q i (drop i xs) ≡ unless (leb 1 (get_or xs i 0) && ltb (get_or xs i 0) q) (Multiplier i) (multiplier_check q (i + 1) (drop (i + 1) xs))
multipliers_more q xs i h = at_drop_more (multiplier_check q i) xs i 0 h

units-pass : (q i : ℕ) (xs : List ℕ) → Units q xs → multiplier_check q i xs ≡ Ok tt
units-pass q i [] h = refl
units-pass q i (x ∷ xs) h = let r = units-pass q (i + 1) xs h.1 in let a = h.0.0 in let b = h.0.1 in grind (arith, nat_tests)

join_fit : (f : Check FitnessFault) (count n order q : ℕ) (xs : List ℕ) → f ≡ Ok tt → count ≡ n → order ≡ q → multiplier_check q 0 xs ≡ Ok tt
    → and_then f (unless (eqb count n) Length (unless (eqb order q) FieldSize (multiplier_check q 0 xs))) ≡ Ok tt
join_fit (Ok u) count n order q xs e a b c = grind (arith, nat_tests)
join_fit (Err f) count n order q xs e a b c = let z : ◌≡◌ {A = ℕ} 0 1 = cc in absurd (omega arith)

module _ (F : Arithmetic) (L : Laws F) (xs : List ℕ) (M : Meaning) (s : Sound M) (p : Scaling F xs M) where
  units' : Units F.order xs
  units' = units F L xs M s p

  module _ (need : ℕ) (rs ms : List ℕ) (er : length rs ≡ M.long) (em : length ms ≡ M.long) (good : unmarked_check M.order 0 rs ms ≡ Ok tt) where
    abbrev qs : List ℕ
    qs = quotients (total F) xs rs ms

    -- a message is as wrong above as its quotients are below
    same_wrong : (m : List ℕ) → Message M m → wrong rs ms (products (total F) xs (M.word m)) ≡ wrong qs ms (M.word m)
    same_wrong m h = wrong-quotients (total F) (total-laws F L) 0 xs rs ms (M.word m) units' (subst (λ (q : ℕ). unmarked_check q 0 rs ms ≡ Ok tt) (sym p.order) good)
        (subst (λ (q : ℕ). Below q (M.word m)) (sym p.order) (s.word_below m h)) (p.counted ∙ sym em) (er ∙ sym em)

    up : (m : List ℕ) → Reached M qs ms m → Reached (scaled F xs M) rs ms m
    up m h = record { message = record { long = h.message.long; below = h.message.below }; near = omega (arith, h.near, same_wrong m h.message) }

    down : (m : List ℕ) → Reached (scaled F xs M) rs ms m → Reached M qs ms m
    down m h =
        let k : Message M m = record { long = h.message.long; below = h.message.below } in
        record { message = k; near = omega (arith, h.near, same_wrong m k) }

    solved-up : (old new : List ℕ) (r : Result ℕ CodeFault) → Solved M qs ms old new r → Solved (scaled F xs M) rs ms old new r
    solved-up old new (Ok e) h = record { reached = up new h.reached; counted = h.counted ∙ sym (same_wrong new h.reached.message) }
    solved-up old new (Err f) h = record { fault = h.fault; unchanged = h.unchanged; none = λ m k. h.none m (down m k) }

    below-passes : (room lent : ℕ) → room ≡ M.dimension → need ≤ lent → decode_check M need qs ms room lent ≡ Ok tt
    below-passes room lent a l = passes M need qs ms room lent record {
      fits = p.fits;
      received = length-quotients (total F) xs rs ms (p.counted ∙ sym em) (er ∙ sym em) ∙ em;
      marks = em;
      message = a;
      scratch = l;
      numbers = subst (λ (q : ℕ). unmarked_check q 0 qs ms ≡ Ok tt) p.order (quotients-pass (total F) (total-laws F L) 0 xs rs ms);
    }

    -- what the code below decodes from the quotients is what the scaled code decodes
    pub decoded-up : (old new scr scr' : List ℕ) (r : Result ℕ CodeFault) → length old ≡ M.dimension → need ≤ length scr → decode_check (scaled F xs M) need rs ms (length old) (length scr) ≡ Ok tt
        → Decoded M need qs ms old new scr scr' r → Decoded (scaled F xs M) need rs ms old new scr scr' r
    decoded-up old new scr scr' r a l ok h =
        let d = decided_ok (decode_check M need qs ms (length old) (length scr)) M need qs ms old new scr scr' r (below-passes (length old) (length scr) a l) h in
        decided_from (decode_check (scaled F xs M) need rs ms (length old) (length scr)) (scaled F xs M) need rs ms old new scr scr' r ok (solved-up old new r d.solved) d.rest

-- a number of a word is its multiplier times the number below
entry : (F : Arithmetic) (xs ys : List ℕ) (j : ℕ) → Units F.order xs → Below F.order ys → length xs ≡ length ys → j < length ys
    → get_or (products (total F) xs ys) j 0 ≡ F.times (get_or xs j 0) (get_or ys j 0)
entry F xs ys j u b l h =
    get_or-products (total F) xs ys j l h
    ∙ ap₂ F.times (counted_same F.order (get_or xs j 0) (All-get_or (λ x. (1 ≤ x) × (x < F.order)) xs j 0 (omega arith) u).1) (counted_same F.order (get_or ys j 0) (All-get_or (λ y. y < F.order) ys j 0 h b))

-- the code's meaning in plain words
pub scales : (F : Arithmetic) → Laws F → (xs : List ℕ) (B : Meaning) → (B.fitness ≡ Ok tt → Sound B) → Scales F xs B (scaled F xs B)
scales F L xs B law = record {
  fit = (
    λ e. (let p = scaling F xs B e in (p.fits, p.counted, p.order, p.units)),
    λ h. join_fit B.fitness (length xs) B.long F.order B.order xs h.0 h.1 h.2 (units-pass B.order 0 xs h.3),
  );
  order = refl;
  long = refl;
  dimension = refl;
  distance = refl;
  word = λ e m h j b.
      let p = scaling F xs B e in
      let s = law p.fits in
      let k : Message B m = record { long = h.long; below = h.below } in
      let w = s.word_long m k in
      let inside : Below F.order (B.word m) = subst (λ (q : ℕ). Below q (B.word m)) (sym p.order) (s.word_below m k) in
      entry F xs (B.word m) j (units F L xs B s p) inside (p.counted ∙ sym w) (omega arith);
  sound = λ e. (let p = scaling F xs B e in scaled-sound F L xs B (law p.fits) p);
}
