use Rattle.std.proofs.Common.{◌≡◌, length, take, drop, Ok, Err, sym, ap, ◌∙◌, arith, rules}
use Rattle.std.proofs.lemmas.Slice.{between_to_end}
use Rattle.std.proofs.lemmas.Result.{err_from_is_err_and}
use Rattle.std.specs.List.{between}
use Rattle.codes.specs.Checks.{zero_check}
use Rattle.layers.proofs.Trim.{none_below, zeros_below, others_below}
use Rattle.layers.proofs.trimmed.Trimmed.decode_whole.Goals as goal

pub returns-in_err-wrong : goal.returns-in_err-wrong
returns-in_err-wrong g c =
    let t = c.args.self.now in
    let M = g.C.Issuer.meaning t.code in
    let law = g.met.C.Issuer.sound t.code in
    let goal = g.C.Code.need t.code in
    let old = c.args.message.now in
    let p = err_from_is_err_and c.from_residual.result c.from_residual.ensures.1 in
    let a = none_below t.by M law goal c.args.received.now c.args.marks.now (length old) c.args.whole.now c.decode.new.message c.args.scratch.now c.decode.new.scratch c.decode.result c.requires.fit c.requires.long c.decode.ensures c.in_err-wrong.field-0.0 old c.in_err-wrong.was in
    rw (p.1, p.2) (record { solved = a.solved; rest = a.rest })

pub returns-in_err-check_zeros : goal.returns-in_err-check_zeros
returns-in_err-check_zeros g c =
    let t = c.args.self.now in
    let M = g.C.Issuer.meaning t.code in
    let law = g.met.C.Issuer.sound t.code in
    let goal = g.C.Code.need t.code in
    let old = c.args.message.now in
    let k = length old in
    let whole = c.decode.new.message in
    let p = err_from_is_err_and c.from_residual-in_err-check_zeros.result c.from_residual-in_err-check_zeros.ensures.1 in
    let all : between k (length whole) whole ≡ drop k whole = between_to_end whole k (length whole) (omega arith) in
    let bad : zero_check (drop k whole) ≡ Err c.in_err-check_zeros.field-0.0 = sym (c.in_err-check_zeros.ensures ∙ ap zero_check all) in
    let a = others_below t.by M law goal c.args.received.now c.args.marks.now k c.args.whole.now whole c.args.scratch.now c.decode.new.scratch c.decode.result c.requires.fit c.requires.long c.decode.ensures c.in_ok-wrong.wrong c.in_err-check_zeros.field-0.0 old c.in_ok-wrong.was bad in
    rw (p.1, p.2) (record { solved = a.solved; rest = a.rest })

pub returns : goal.returns
returns g c =
    let t = c.args.self.now in
    let M = g.C.Issuer.meaning t.code in
    let law = g.met.C.Issuer.sound t.code in
    let goal = g.C.Code.need t.code in
    let old = c.args.message.now in
    let k = length old in
    let whole = c.decode.new.message in
    let after = c.copy_from_slice.ensures.after in
    let all : between k (length whole) whole ≡ drop k whole = between_to_end whole k (length whole) (omega arith) in
    let good : zero_check (drop k whole) ≡ Ok tt = sym (c.in_ok-check_zeros.ensures ∙ ap zero_check all) in
    let front : c.copy_from_slice.new.self ≡ take k whole = search rules in
    let a = zeros_below t.by M law goal c.args.received.now c.args.marks.now k c.args.whole.now whole c.args.scratch.now c.decode.new.scratch c.decode.result c.requires.fit c.requires.long c.decode.ensures c.in_ok-wrong.wrong old c.in_ok-wrong.was good in
    record { solved = rw front a.solved; rest = a.rest }
