use Rattle.std.proofs.Common.{◌≡◌, sym, ap, ◌∙◌}
use Rattle.linear.specs.Operations.{operations}
use Rattle.linear.proofs.Lists.{value-onto, value-onto_zero, value-onto_push}
use Rattle.linear.proofs.polynomial.evaluate.Goals as goal

pub loop-a-init : goal.loop-a-init
loop-a-init g c =
    let F = operations g.F.Field c.args.f.now in
    let all : c.into_iter-a-iterator.result.iter.rest.now ≡ c.args.p.now = cc in
    value-onto_zero F c.args.p.now c.args.x ∙ ap (λ p. value-onto F p c.args.x 0) (sym all)

pub loop-a-preserved : goal.loop-a-preserved
loop-a-preserved g c =
    let F = operations g.F.Field c.args.f.now in
    c.loop-a.invariant ∙ ap (λ p. value-onto F p c.args.x c.loop-a.sum) c.in-Some.ensures.steps
    ∙ value-onto_push F c.next.new.self.iter.rest.now c.in-Some.a.now c.args.x c.loop-a.sum
    ∙ ap (value-onto F c.next.new.self.iter.rest.now c.args.x) (sym (c.add-sum.ensures ∙ ap (F.plus c.in-Some.a.now) c.multiply.ensures))
