use Rattle.std.proofs.Common.{◌≡◌, ℕ, ◌*◌, ◌≤◌, ◌++◌, List, length, take, drop, replicate, sym, refl, ap, ◌∙◌, inr, arith, rules}
use lib.ListN.{length-replicate}
use Rattle.std.proofs.lemmas.List.{take_at}
use Rattle.std.proofs.lemmas.Result.{err_from_is_err_and}
use Rattle.file.specs.declared.heading.Heading.{Heading}
use Rattle.file.specs.Reads.{Taken, strips_of}
use Rattle.file.proofs.Receiving.{few-numbers, made, carries, part_long, lost, found}
use Rattle.file.proofs.received.reception.receive.Goals as goal

-- the sheet's size, by the reader's heading
same_size : (h g : Heading) → h ≡ g → h.depth * h.k ≡ g.depth * g.k
same_size h g e = ap (λ (x : Heading). x.depth * x.k) e

pub slice_bounds-sheet-end : goal.slice_bounds-sheet-end
slice_bounds-sheet-end c =
    let R = c.in_ok-reader.reader in
    let T : Taken R.heading (strips_of R) c.args.file.now = c.in_ok-reader.ensures in
    omega (arith, c.size-size.ensures, same_size c.heading-heading.result R.heading c.heading-heading.ensures, few-numbers R.heading (strips_of R) c.args.file.now T)

pub slice_bounds-collect_from-end : goal.slice_bounds-collect_from-end
slice_bounds-collect_from-end c =
    let R = c.in_ok-reader.reader in
    let T : Taken R.heading (strips_of R) c.args.file.now = c.in_ok-reader.ensures in
    let few : c.size-size.result ≤ 2048 = omega (arith, c.size-size.ensures, same_size c.heading-heading.result R.heading c.heading-heading.ensures, few-numbers R.heading (strips_of R) c.args.file.now T) in
    search rules

pub returns-in_err-wrong : goal.returns-in_err-wrong
returns-in_err-wrong c =
    let p = err_from_is_err_and c.from_residual-in_err-wrong.result c.from_residual-in_err-wrong.ensures.1 in
    let R = c.in_ok-reader.reader in
    let h = c.heading-heading.result in
    let file = c.args.file.now in
    let ss = strips_of R in
    let T : Taken R.heading ss file = c.in_ok-reader.ensures in
    let few = few-numbers R.heading ss file T in
    let blank : List ℕ = replicate 2048 0 in
    let whole : length blank ≡ 2048 = length-replicate {A = ℕ} 2048 0 in
    let z = c.size-size.result in
    let size : z ≡ R.heading.depth * R.heading.k = c.size-size.ensures ∙ same_size h R.heading c.heading-heading.ensures in
    let old = take z blank in
    let scratch : List ℕ = replicate 16899 0 in
    let room : 16899 ≤ length scratch = omega (arith, length-replicate {A = ℕ} 16899 0) in
    let m = made R.heading ss file T old c.collect_from.new.sheet scratch c.collect_from.new.scratch c.in_ok-outcome.outcome c.in_ok-outcome.ensures (part_long blank z (R.heading.depth * R.heading.k) whole few size) room in
    rw (p.1, p.2)
    (inr (c.if-file-gt-LONGEST.false, inr (c.in_err-wrong.field-0.0, refl, lost R.heading ss file T old c.collect_from.new.sheet c.in_ok-outcome.outcome.wrong c.in_err-wrong.field-0.0 c.in_err-wrong.was m.reading)))

pub returns : goal.returns
returns c =
    let R = c.in_ok-reader.reader in
    let h = c.heading-heading.result in
    let file = c.args.file.now in
    let ss = strips_of R in
    let T : Taken R.heading ss file = c.in_ok-reader.ensures in
    let few = few-numbers R.heading ss file T in
    let blank : List ℕ = replicate 2048 0 in
    let whole : length blank ≡ 2048 = length-replicate {A = ℕ} 2048 0 in
    let z = c.size-size.result in
    let size : z ≡ R.heading.depth * R.heading.k = c.size-size.ensures ∙ same_size h R.heading c.heading-heading.ensures in
    let old = take z blank in
    let new = c.collect_from.new.sheet in
    let scratch : List ℕ = replicate 16899 0 in
    let room : 16899 ≤ length scratch = omega (arith, length-replicate {A = ℕ} 16899 0) in
    let long = part_long blank z (R.heading.depth * R.heading.k) whole few size in
    let m = made R.heading ss file T old new scratch c.collect_from.new.scratch c.in_ok-outcome.outcome c.in_ok-outcome.ensures long room in
    let front : take (R.heading.depth * R.heading.k) (new ++ drop z blank) ≡ new = take_at new (drop z blank) (R.heading.depth * R.heading.k) (c.collect_from.auto.sheet ∙ long) in (
      c.if-file-gt-LONGEST.false,
      carries file ss _ old R.heading c.heading-heading.ensures T m.kept m.declined
          (found T.meaning R.heading.depth ss old new (take (R.heading.depth * R.heading.k) (new ++ drop z blank)) c.in_ok-outcome.outcome.wrong c.in_ok-wrong.wrong c.in_ok-wrong.was (sym front) m.reading),
    )
