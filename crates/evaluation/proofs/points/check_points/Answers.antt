use Rattle.std.proofs.Common.{◌≡◌, ◌-◌, true, false, get_or, take, sym, ap, ◌∙◌, arith}
use Rattle.std.proofs.lemmas.Bool.Decides.{nat_tests}
use Rattle.std.proofs.lemmas.List.{at_drop_all}
use Rattle.fields.specs.Numbers.{among}
use Rattle.evaluation.specs.Evaluation.{point_check}
use Rattle.evaluation.specs.Checked.{points_more}
use Rattle.evaluation.proofs.points.check_points.Goals as goal
use Rattle.evaluation.proofs.points.check_points.Goals.{then-from-order-via-then-from-order, then-from-order-via-else-from-order+then-is_among}

pub returns-then-from-order : goal.returns-then-from-order
returns-then-from-order c =
    let j = c.loop-place.place in
    let ps = c.args.points.now in
    let e = points_more c.args.order ps j c.loop-place-test.true in
    elim c.then-from-order.branch [
      | then-from-order-via-then-from-order w ↦ let h = w.if-from-order.true in grind (arith, nat_tests)
      | then-from-order-via-else-from-order+then-is_among w ↦
          let here : j - 0 ≡ j = omega arith in
          let h : among (get_or ps j 0) (take j ps) ≡ true = ap (λ i. among (get_or ps j 0) (take i ps)) (sym here) ∙ sym w.is_among.ensures ∙ w.if-is_among.true in
          grind (arith, nat_tests)
    ]

pub loop-place-preserved : goal.loop-place-preserved
loop-place-preserved c =
    let j = c.loop-place.place in
    let ps = c.args.points.now in
    let e = points_more c.args.order ps j c.loop-place-test.true in
    let w : j - 0 ≡ j = omega arith in
    let h : among (get_or ps j 0) (take j ps) ≡ false = ap (λ i. among (get_or ps j 0) (take i ps)) (sym w) ∙ sym c.is_among.ensures ∙ c.if-is_among.false in
    grind (arith, nat_tests)

pub returns : goal.returns
returns c = sym (c.loop-place.invariant ∙ at_drop_all (point_check c.args.order (take c.loop-place.place c.args.points.now) c.loop-place.place) c.args.points.now c.loop-place.place c.loop-place-test.false)
