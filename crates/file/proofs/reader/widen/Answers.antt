use Rattle.std.proofs.Common.{◌≡◌, length, sym, ◌∙◌, arith}
use Rattle.std.proofs.lemmas.List.{ext_get_or}
use Rattle.file.specs.Form.{numbers_in}
use Rattle.file.proofs.Forms.{length-numbers_in}
use Rattle.file.proofs.Delivering.{get_or-numbers_in}
use Rattle.file.proofs.reader.widen.Goals as goal

pub returns : goal.returns
returns c =
    let n = length c.args.numbers.now in
    let k = c.loop-i.auto.numbers in
    let l : length c.loop-i.numbers ≡ n = omega arith in
    ext_get_or 0 c.loop-i.numbers (numbers_in n c.args.bytes.now) (l ∙ sym (length-numbers_in n c.args.bytes.now))
    (λ j h. c.loop-i.invariant j (omega arith) ∙ sym (get_or-numbers_in n c.args.bytes.now j (omega arith)))
