use Rattle.std.proofs.Common.{◌≡◌, ℕ, length, Ok, sym, rules}
use Rattle.codes.specs.Meaning.{decode_check}
use Rattle.codes.proofs.Passed.{passed, decided_from}
use Rattle.repetition.specs.Repeats.{repetition}
use Rattle.repetition.proofs.Repeats.{solved-one}
use Rattle.repetition.proofs.repetition.RepetitionCode.decode.Goals as goal

pub returns : goal.returns
returns c =
    let s = c.args.self.now in
    let M = repetition s.order s.length in
    let rs = c.args.received.now in
    let ms = c.args.marks.now in
    let old = c.args.message.now in
    let room = length old in
    let lent = length c.args.scratch.now in
    let ok : decode_check M 0 rs ms room lent ≡ Ok tt = sym c.in_ok-check_decode.ensures in
    let p = passed M 0 rs ms room lent ok in
    let found : ℕ × ℕ = (c.in_ok-number.number, c.in_ok-number.wrong) in
    decided_from _ M 0 rs ms _ _ _ _ _ ok (solved-one s.order s.length rs ms old found p.received p.message c.in_ok-number.ensures) (search rules)
