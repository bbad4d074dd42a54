use Rattle.std.proofs.Common.{◌≡◌, ◌<◌, inl, inr, length, subst, sym, ap, ◌∙◌, ap₂, arith}
use Rattle.std.proofs.lemmas.List.{nil_from_length}
use Rattle.fields.proofs.Total.{TotalLaws}
use Rattle.fields.proofs.Algebra
use Rattle.linear.specs.Equations.{dot}
use Rattle.linear.specs.Operations.{operations}
use Rattle.linear.proofs.Kernel
use Rattle.linear.proofs.Lawful.{lawful}
use Rattle.linear.proofs.rows.multiply_rows.Goals as goal

pub loop-x-init : goal.loop-x-init
loop-x-init g c =
    let f = c.args.f.now in
    let F = operations g.F.Field f in
    let L : TotalLaws F = lawful g.F.Field f (g.met.F.Field.sizes f) (g.met.F.Field.sums f) (g.met.F.Field.products f) (g.met.F.Field.inverses f) in
    let first : c.into_iter-x-iterator.result.a.rest.now ≡ c.args.a.now = cc in
    let second : c.into_iter-x-iterator.result.b.rest.now ≡ c.args.b.now = cc in (
      ap length first ∙ c.requires.same ∙ sym (ap length second),
      Algebra.zero-below F L,
      sym (ap (F.plus 0) (ap₂ (dot F) first second) ∙ Algebra.zero-plus F L (dot F c.args.a.now c.args.b.now) (Kernel.dot-below F L c.args.a.now c.args.b.now)),
    )

pub loop-x-preserved : goal.loop-x-preserved
loop-x-preserved g c =
    let f = c.args.f.now in
    let F = operations g.F.Field f in
    let L : TotalLaws F = lawful g.F.Field f (g.met.F.Field.sizes f) (g.met.F.Field.sums f) (g.met.F.Field.products f) (g.met.F.Field.inverses f) in
    let s = c.loop-x.sum in
    let p = F.times c.in-Some.x.now c.in-Some.y.now in
    let sum : c.add-sum.result ≡ F.plus s p = c.add-sum.ensures ∙ ap (F.plus s) c.multiply.ensures in
    let rest = dot F c.next.new.self.a.rest.now c.next.new.self.b.rest.now in
    let step = c.in-Some.ensures.steps in
    let same = sym (ap length step.0) ∙ c.loop-x.invariant.0 ∙ ap length step.1 in (
      omega (arith, same),
      subst (λ x. x < F.order) (sym sum) (L.plus_below s p),
      c.loop-x.invariant.2 ∙ ap (F.plus s) (ap₂ (dot F) step.0 step.1) ∙ sym (L.plus_assoc s p rest) ∙ ap (λ x. F.plus x rest) (sym sum),
    )

pub returns : goal.returns
returns g c =
    let f = c.args.f.now in
    let F = operations g.F.Field f in
    let L : TotalLaws F = lawful g.F.Field f (g.met.F.Field.sizes f) (g.met.F.Field.sums f) (g.met.F.Field.products f) (g.met.F.Field.inverses f) in
    let first = c.loop-x.x-iterator.a.rest.now in
    let second = c.loop-x.x-iterator.b.rest.now in
    let none : length first ≡ 0 = elim c.in-None.ensures.steps [ inl e ↦ e.1.0 | inr e ↦ c.loop-x.invariant.0 ∙ e.1.0 ] in
    sym (c.loop-x.invariant.2 ∙ ap (λ r. F.plus c.loop-x.sum (dot F r second)) (nil_from_length first none) ∙ L.plus_zero c.loop-x.sum c.loop-x.invariant.1)
