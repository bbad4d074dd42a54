use Rattle.std.proofs.Common.{◌≡◌, length, refl, inl, inr, ◌∙◌, arith}
use Rattle.repetition.proofs.Repeats.{none_near, missing-few}
use Rattle.repetition.proofs.majority.majority.Goals as goal

pub overflow_add-wrong : goal.overflow_add-wrong
overflow_add-wrong c =
    let m = missing-few c.args.marks.now in
    let e = c.count_missing-missing.ensures in
    let few = c.count_wrong-wrong.ensures.few in
    omega arith

pub returns : goal.returns
returns c =
    let left = c.loop-number.number-iterator.a.rest.now in
    let end : length left ≡ 0 = elim c.in-None.ensures.steps [ inl e ↦ e.1.0 | inr e ↦ c.loop-number.invariant.same ∙ e.1.0 ] in
    record { fault = refl; none = none_near c.args.received.now c.args.marks.now c.requires.same (c.loop-number.invariant.none (λ j h. absurd (omega arith))) }
