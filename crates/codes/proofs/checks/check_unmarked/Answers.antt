use Rattle.std.proofs.Common.{sym, ◌∙◌, inl, inr}
use Rattle.codes.proofs.Steps.{unmarked_end}
use Rattle.codes.proofs.checks.check_unmarked.Goals as goal

pub returns : goal.returns
returns c =
    let xs = c.loop-place.place-iterator.iter.a.rest.now in
    let ms = c.loop-place.place-iterator.iter.b.rest.now in
    let i = c.loop-place.place-iterator.count in
    sym (c.loop-place.invariant.2 ∙ unmarked_end c.args.order i xs ms (elim c.in-None.ensures.steps.0 [ inl e ↦ inl e.1.0 | inr e ↦ inr e.1.0 ]))
