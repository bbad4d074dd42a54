-- The table's places as records, and what the checks of the calls say where they pass.
use Rattle.std.proofs.Common.{◌≡◌, ℕ, ◌*◌, ◌<◌, ◌≤◌, Bool, true, false, cond, eqb, ltb, leb, List, ◌++◌, map, length, get_or, take, set, Some, None, Ok, Err, Option, refl, ap, ◌∙◌, arith}
use lib.Seq.{take-set-lt}
use Rattle.std.proofs.lemmas.List.{map-set, take_at}
use Rattle.std.proofs.lemmas.Bool.Decides.{nat_tests}
use Rattle.fields.specs.Checks.{Check, unless, and_then}
use Rattle.codes.specs.Checks.{number_check}
use Rattle.codes.specs.Meaning.{Meaning}
use Rattle.codes.specs.declared.fault.CodeFault.TheVariants.{Scratch}
use Rattle.codes.specs.declared.fault.FitnessFault.{FitnessFault}
use Rattle.carrier.specs.declared.fault.CollectorFault.{CollectorFault}
use Rattle.carrier.specs.declared.fault.CollectorFault.TheVariants.{Code, Place, StripLength, Taken, Vacant, SheetLength}
use Rattle.carrier.specs.Book.{Book, filled, vacant}
use Rattle.carrier.specs.Checks.{from_code, fit, fit_check, deliver_check, strike_check}
use Rattle.carrier.specs.Records.{records, held}

pub filled-held : (D : ℕ) (o : Option (List ℕ)) → filled (held D o) ≡ filled o
filled-held D None = refl
filled-held D (Some s) = refl

pub vacant-filled : (o : Option (List ℕ)) (b : Bool) → filled o ≡ b → vacant o ≡ cond b false true
vacant-filled None b e = ap (λ (x : Bool). cond x false true) e
vacant-filled (Some s) b e = ap (λ (x : Bool). cond x false true) e

pub records-set : (n D : ℕ) (strips : List (Option (List ℕ))) (place : ℕ) (o : Option (List ℕ)) → place < n → records n D (set strips place o) ≡ set (records n D strips) place (held D o)
records-set n D strips place o h = ap (map (held D)) (take-set-lt n strips place o h) ∙ map-set (held D) (take n strips) place o

pub records-put : (n D : ℕ) (strips : List (Option (List ℕ))) (place : ℕ) (strip pad : List ℕ) → place < n → length strip ≡ D → records n D (set strips place (Some (strip ++ pad))) ≡ set (records n D strips) place (Some strip)
records-put n D strips place strip pad h l =
    records-set n D strips place (Some (strip ++ pad)) h ∙ ap (λ (s : List ℕ). set (records n D strips) place (Some s)) (take_at strip pad D l)

-- the checks of a delivery, a strike and a read after the collector's fitness
abbrev pub delivery : (n D q : ℕ) → Book → ℕ → List ℕ → Check CollectorFault
delivery n D q b place strip =
    unless (ltb place n) Place
    (unless (eqb (length strip) D) StripLength
    (and_then (from_code (number_check q 0 strip))
    (unless (vacant (get_or b place None)) Taken (Ok tt))))

abbrev pub striking : ℕ → Book → ℕ → Check CollectorFault
striking n b place = unless (ltb place n) Place (unless (filled (get_or b place None)) Vacant (Ok tt))

abbrev pub reading : (D k need asked lent : ℕ) → Check CollectorFault
reading D k need asked lent = unless (eqb asked (D * k)) SheetLength (unless (leb need lent) (Code Scratch 0) (Ok tt))

pub deliver-ends : (m : Meaning) (D : ℕ) (b : Book) (place : ℕ) (strip : List ℕ) (t : Bool) → fit_check m D ≡ Ok tt → place < m.long → length strip ≡ D → number_check m.order 0 strip ≡ Ok tt → filled (get_or b place None) ≡ t → deliver_check m D b place strip ≡ cond t (Err Taken) (Ok tt)
deliver-ends m D b place strip t e l k n h = go (fit_check m D) m.long (number_check m.order 0 strip) (vacant (get_or b place None)) e l n (vacant-filled (get_or b place None) t h)
  where
    go : (f : Check CollectorFault) (long : ℕ) (u : Check _) (v : Bool) → f ≡ Ok tt → place < long → u ≡ Ok tt → v ≡ cond t false true
        → and_then f (unless (ltb place long) Place (unless (eqb (length strip) D) StripLength (and_then (from_code u) (unless v Taken (Ok tt))))) ≡ cond t (Err Taken) (Ok tt)
    go f long u v e l n w = rw e (rw n (rw w (grind (arith, nat_tests))))

pub strike-ends : (m : Meaning) (D : ℕ) (b : Book) (place : ℕ) (t : Bool) → fit_check m D ≡ Ok tt → place < m.long → filled (get_or b place None) ≡ t → strike_check m D b place ≡ cond t (Ok tt) (Err Vacant)
strike-ends m D b place t e l h = go (fit_check m D) m.long (filled (get_or b place None)) e l h
  where
    go : (f : Check CollectorFault) (long : ℕ) (v : Bool) → f ≡ Ok tt → place < long → v ≡ t → and_then f (unless (ltb place long) Place (unless v Vacant (Ok tt))) ≡ cond t (Ok tt) (Err Vacant)
    go f long v e l h = rw e (rw h (grind (arith, nat_tests)))

-- what an accepted delivery says
pub record Accepted (f : Check CollectorFault) (n D q : ℕ) (b : Book) (place : ℕ) (strip : List ℕ) : Type 0 where
  pub fits : f ≡ Ok tt
  pub within : place < n
  pub long : length strip ≡ D
  pub below : number_check q 0 strip ≡ Ok tt
  pub free : vacant (get_or b place None) ≡ true

pub accepted : (f : Check CollectorFault) (n D q : ℕ) (b : Book) (place : ℕ) (strip : List ℕ) → and_then f (delivery n D q b place strip) ≡ Ok tt → Accepted f n D q b place strip
accepted (Ok u) n D q b place strip e = record {
  fits = refl;
  within = grind (arith, nat_tests);
  long = grind (arith, nat_tests);
  below = grind (arith, nat_tests);
  free = grind (arith, nat_tests);
}
accepted (Err f) n D q b place strip e = let z : ◌≡◌ {A = ℕ} 0 1 = cc in absurd (omega arith)

-- what an accepted strike says
pub record Removed (f : Check CollectorFault) (n : ℕ) (b : Book) (place : ℕ) : Type 0 where
  pub fits : f ≡ Ok tt
  pub within : place < n
  pub held : filled (get_or b place None) ≡ true

pub removed : (f : Check CollectorFault) (n : ℕ) (b : Book) (place : ℕ) → and_then f (striking n b place) ≡ Ok tt → Removed f n b place
removed (Ok u) n b place e = record { fits = refl; within = grind (arith, nat_tests); held = grind (arith, nat_tests) }
removed (Err f) n b place e = let z : ◌≡◌ {A = ℕ} 0 1 = cc in absurd (omega arith)

-- what a fit collector's checks say
pub record Fits (c : Check FitnessFault) (D : ℕ) : Type 0 where
  pub code : c ≡ Ok tt
  pub low : 1 ≤ D
  pub high : D ≤ 16

pub fits : (c : Check FitnessFault) (D : ℕ) → fit c D ≡ Ok tt → Fits c D
fits (Ok u) D e = record { code = refl; low = grind (arith, nat_tests); high = grind (arith, nat_tests) }
fits (Err f) D e = let z : ◌≡◌ {A = ℕ} 0 1 = cc in absurd (omega arith)

pub fit-both : (f : Check FitnessFault) (D : ℕ) → f ≡ Ok tt → 1 ≤ D → D ≤ 16 → fit f D ≡ Ok tt
fit-both (Ok u) D e a b = grind (arith, nat_tests)
fit-both (Err f) D e a b = let z : ◌≡◌ {A = ℕ} 0 1 = cc in absurd (omega arith)

-- what a read's checks say
pub record Passed (f : Check CollectorFault) (D k need asked lent : ℕ) : Type 0 where
  pub fits : f ≡ Ok tt
  pub long : asked ≡ D * k
  pub lends : need ≤ lent

pub passed : (f : Check CollectorFault) (D k need asked lent : ℕ) → and_then f (reading D k need asked lent) ≡ Ok tt → Passed f D k need asked lent
passed (Ok u) D k need asked lent e = record { fits = refl; long = grind (arith, nat_tests); lends = grind (arith, nat_tests) }
passed (Err f) D k need asked lent e = let z : ◌≡◌ {A = ℕ} 0 1 = cc in absurd (omega arith)
