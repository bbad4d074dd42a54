-- What is known where the checks of a call passed.
use Rattle.std.proofs.Common.{◌≡◌, ℕ, ◌+◌, ◌*◌, ◌<◌, ◌≤◌, Bool, true, false, eqb, ltb, leb, List, length, take, Some, None, Ok, Option, refl, arith, ltb-true, eqb-true, leb-true}
use Rattle.fields.specs.Numbers.{Below}
use Rattle.fields.specs.Checks.{Check, unless, unless_found, stray}
use Rattle.linear.specs.Division.{numbers_check}
use Rattle.linear.specs.Equations.{solve_check}
use Rattle.linear.specs.declared.fault.DivideFault.TheVariants.{Length, Dividend, Divisor}
use Rattle.linear.specs.declared.fault.SolveFault.TheVariants.{Unknowns, Scratch, Number}
use Rattle.linear.proofs.Searches.{below-from_stray}

-- a test that passed, and the checks after it
pub passed_unless : {Fault : Type 0} (b : Bool) (fault : Fault) (rest : Check Fault) → Ok tt ≡ unless b fault rest → (b ≡ true) × (Ok tt ≡ rest)
passed_unless true fault rest e = (refl, e)
passed_unless false fault rest e = let z : ◌≡◌ {A = ℕ} 0 1 = cc in absurd (omega arith)

-- a search that found nothing, and the checks after it
pub passed_found : {Fault : Type 0} (o : Option ℕ) (fault : ℕ → Fault) (rest : Check Fault) → Ok tt ≡ unless_found o fault rest → (None ≡ o) × (Ok tt ≡ rest)
passed_found (Some place) fault rest e = let z : ◌≡◌ {A = ℕ} 0 1 = cc in absurd (omega arith)
passed_found None fault rest e = (refl, e)

pub passed_system : (q n w : ℕ) (s : List ℕ) → Ok tt ≡ solve_check q s n w → (n < w) × ((n + 1) * w ≤ length s) × Below q (take (n * w) s)
passed_system q n w s e =
    let numbers = unless_found (stray q (take (n * w) s)) Number (Ok tt) in
    let unknowns = passed_unless (ltb n w) Unknowns (unless (leb ((n + 1) * w) (length s)) Scratch numbers) e in
    let room = passed_unless (leb ((n + 1) * w) (length s)) Scratch numbers unknowns.1 in (
      ltb-true n w unknowns.0,
      leb-true ((n + 1) * w) (length s) room.0,
      below-from_stray q (take (n * w) s) (passed_found (stray q (take (n * w) s)) Number (Ok tt) room.1).0,
    )

pub passed_numbers : (q : ℕ) (p s : List ℕ) (room : ℕ) → Ok tt ≡ numbers_check q p s room → (room ≡ length p) × Below q p × Below q s
passed_numbers q p s room e =
    let divisor = unless_found (stray q s) Divisor (Ok tt) in
    let long = passed_unless (eqb room (length p)) Length (unless_found (stray q p) Dividend divisor) e in
    let dividend = passed_found (stray q p) Dividend divisor long.1 in
    (eqb-true room (length p) long.0, below-from_stray q p dividend.0, below-from_stray q s (passed_found (stray q s) Divisor (Ok tt) dividend.1).0)
