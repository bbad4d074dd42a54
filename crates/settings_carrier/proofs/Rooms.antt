-- The room for a sheet, and the scratch for a decoder.
use Rattle.std.proofs.Common.{◌≡◌, ℕ, ◌+◌, ◌*◌, ◌≤◌, List, length, Some, Ok, Err, Result, ap, inl, inr, mul-le-mul, arith}
use Rattle.codes.specs.Meaning.{Meaning}
use Rattle.carrier.specs.Checks.{fit}
use Rattle.file.specs.Form.{Strip}
use Rattle.file.specs.Meant.{code_of, field_of, need_of}
use Rattle.file.specs.Reads.{Taken, Declined}
use Rattle.file.specs.Receipts.{Receives}
use Rattle.file.specs.declared.fault.FileFault.{FileFault}
use Rattle.file.specs.declared.heading.Heading.{Heading}
use Rattle.file.specs.declared.received.Received.{Received}
use Rattle.file.proofs.Apart.{rightly}
use Rattle.file.proofs.Receiving.{shape_over}
use Rattle.settings_carrier.specs.Readings.{size, Cramped, Fills}

-- where every sheet of the file has room, what is received fills it
pub fills : (file : List ℕ) (room : ℕ) (r : Result Received FileFault) → ((h : Heading) (ss : List Strip) → length file ≤ 65535 → Taken h ss file → size h ≤ room) → Receives file r → Fills file room r
fills file room (Ok x) roomy received = (roomy x.heading received.1.strips received.0 received.1.taken, received)
fills file room (Err f) roomy received =
    let roomless : Cramped file room → ⊥ = λ c. let fits = roomy c.heading c.strips c.short c.taken in omega (arith, fits, c.cramped) in
    inr (roomless, received)

-- a file that is declined has no sheet that wants room
pub declines : (file : List ℕ) (room : ℕ) (f : FileFault) → length file ≤ 65535 → Declined file f → Fills file room (Err f)
declines file room f short declined =
    inr (λ c. rightly file f declined c.heading c.taken.meaning c.strips c.taken.holds, inr (short, inl declined))

-- a taken file has no other sheet
pub roomy : (file : List ℕ) (room : ℕ) (h : Heading) (ss : List Strip) → Taken h ss file → size h ≤ room → (h' : Heading) (ss' : List Strip) → length file ≤ 65535 → Taken h' ss' file → size h' ≤ room
roomy file room h ss taken fits h' ss' short taken' =
    let same : h' ≡ h = (taken.alone h' ss' taken'.holds.form).0 in
    omega (arith, ap size same, fits)

-- the scratch of a fit code of a heading's
pub enough : (h : Heading) (scratch : ℕ) → h.depth ≡ 1 → scratch ≡ 16899 → (M : Meaning) → code_of h ≡ Some M → M.fitness ≡ Ok tt → need_of M ≤ scratch
enough h scratch one full M e fitness =
    let f : fit M.fitness h.depth ≡ Ok tt = rw (fitness, one) in
    let s = shape_over h (field_of h) M e f in
    let n : M.long ≤ 128 = omega (arith, s.long, s.few) in
    let need : need_of M ≤ 129 * 131 = mul-le-mul (let a : M.long + 1 ≤ 129 = omega arith in a) (let b : M.long + 3 ≤ 131 = omega arith in b) in
    omega (arith, need)
