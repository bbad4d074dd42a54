use Rattle.std.proofs.Common.{◌≡◌, ◌++◌, map, length, take, drop, sym, ◌∙◌, arith}
use Rattle.std.proofs.lemmas.List.{take_at}
use Rattle.codes.specs.Meaning.{decode_check}
use Rattle.vectors.specs.Entries.{number, mark}
use Rattle.vectors.proofs.Decodings.{found, lost, decode_before}
use Rattle.vectors.proofs.answers.decode.Goals as goal

pub returns-in-Ok : goal.returns-in-Ok
returns-in-Ok g c =
    let M = g.C.Issuer.meaning c.args.code.now in
    let new = c.decode.new.message in
    let message = c.in_ok-message.message in
    let numbers : c.deref.result.now ≡ map number c.args.received.now = c.deref.ensures.value ∙ c.in_ok-numbers.ensures in
    let marks : c.deref-2.result.now ≡ map mark c.args.received.now = c.deref-2.ensures.value ∙ c.in_ok-marks.ensures in
    let long : length new ≡ message.len = omega (arith, c.decode.auto.message, c.deref_mut.ensures.len) in
    let same : take message.len (new ++ drop (length new) message.items) ≡ new = take_at new (drop (length new) message.items) message.len long in
    let answer = found (decode_check M (g.C.Code.need c.args.code.now) c.deref.result.now c.deref-2.result.now (length c.deref_mut.result.now) (length c.deref_mut-2.result.now)) M _ _ _ _ _ _ _ c.in-Ok.wrong c.in-Ok.ensures in
    rw same (rw (numbers, marks) at answer)

pub returns : goal.returns
returns g c =
    let M = g.C.Issuer.meaning c.args.code.now in
    let size = g.C.Code.need c.args.code.now in
    let numbers : c.deref.result.now ≡ map number c.args.received.now = c.deref.ensures.value ∙ c.in_ok-numbers.ensures in
    let marks : c.deref-2.result.now ≡ map mark c.args.received.now = c.deref-2.ensures.value ∙ c.in_ok-marks.ensures in
    λ n m reached.
    lost _ M size _ _ _ _ _ _ c.in-Err.fault (decode_before M size c.deref.result.now c.deref-2.result.now _ _) c.in-Err.ensures (sym c.number.ensures ∙ n) m
    (rw (numbers, marks) reached)
