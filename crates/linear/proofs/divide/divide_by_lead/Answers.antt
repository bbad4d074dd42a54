use Rattle.std.proofs.Common.{◌≡◌, ℕ, ◌+◌, ◌-◌, ◌<◌, ◌≤◌, ◌≢◌, List, length, get_or, take, drop, set, replicate, sym, ap, ◌∙◌, subst, ap₂, arith}
use borrow.Rule.Slice.PartMut.{put_mid}
use Rattle.fields.proofs.Total.{TotalLaws, inverse-some}
use Rattle.linear.specs.Equations.{reduced}
use Rattle.linear.specs.Operations.{operations}
use Rattle.linear.proofs.Division.{Down, down_start, down_more, down_done}
use Rattle.linear.proofs.Lawful.{lawful}
use Rattle.linear.proofs.divide.divide_by_lead.Goals as goal

pub loop-i-init : goal.loop-i-init
loop-i-init g c =
    let f = c.args.f.now in
    let F = operations g.F.Field f in
    let L : TotalLaws F = lawful g.F.Field f (g.met.F.Field.sizes f) (g.met.F.Field.sums f) (g.met.F.Field.products f) (g.met.F.Field.inverses f) in
    let blank : c.fill.new.self ≡ replicate (length c.args.quotient.now) 0 = c.fill.ensures.after (λ y e. e) in
    down_start F L c.args.lead c.saturating_sub-i.result c.args.dividend.now c.args.divisor.now c.fill.new.self (omega (arith, c.saturating_sub-i.ensures)) c.requires.numbers
    (blank ∙ ap (λ n. replicate n 0) (sym c.fill.ensures.len))

pub loop-i-preserved : goal.loop-i-preserved
loop-i-preserved g c =
    let f = c.args.f.now in
    let F = operations g.F.Field f in
    let L : TotalLaws F = lawful g.F.Field f (g.met.F.Field.sizes f) (g.met.F.Field.sums f) (g.met.F.Field.products f) (g.met.F.Field.inverses f) in
    let lead = c.args.lead in
    let p = c.args.dividend.now in
    let s = c.args.divisor.now in
    let d = c.loop-i.dividend in
    let i = c.loop-i.i in
    let j = c.loop-i.i - 1 in
    let y = c.multiply-by.result in
    let a = get_or s lead 0 in
    let inverse : (c.in-Some.inverse ≡ F.inverse a) × (a < F.order) × (a ≢ 0) = inverse-some (g.F.Field.arithmetic f) a c.in-Some.inverse c.in-Some.ensures in
    let is : y ≡ F.times (get_or d (j + lead) 0) (F.inverse a) = c.multiply-by.ensures ∙ ap (F.times (get_or d (j + lead) 0)) inverse.0 in
    let width : j + lead + 1 - j ≡ lead + 1 = omega arith in
    let front : lead + 1 - 0 ≡ lead + 1 = omega arith in
    let row : c.subtract_row.new.target ≡ reduced F (take (lead + 1) (drop j d)) y (take (lead + 1) s) =
    c.subtract_row.ensures ∙ ap₂ (λ m n. reduced F (take m (drop j d)) y (take n s)) width front in
    let fits : i + lead ≤ length p = omega (arith, c.saturating_sub-i.ensures, c.loop-i.auto.i, c.loop-i-test.true) in
    let next : i ≡ j + 1 = omega (arith, c.loop-i-test.true) in
    let quotient-long : length c.loop-i.quotient ≡ length p = c.loop-i.auto.quotient ∙ c.fill.ensures.len ∙ c.requires.same in
    subst (λ (n : ℕ). Down F lead p s j (put_mid j n d c.subtract_row.new.target) (set c.loop-i.quotient j y)) (sym width)
    (subst (λ (t : List ℕ). Down F lead p s j (put_mid j (lead + 1) d t) (set c.loop-i.quotient j y)) (sym row)
    (down_more F L lead i j y p s d c.loop-i.quotient c.requires.leads c.loop-i.invariant next fits c.loop-i.auto.dividend quotient-long is))

pub returns : goal.returns
returns g c =
    let f = c.args.f.now in
    let F = operations g.F.Field f in
    let L : TotalLaws F = lawful g.F.Field f (g.met.F.Field.sizes f) (g.met.F.Field.sums f) (g.met.F.Field.products f) (g.met.F.Field.inverses f) in
    let none : c.loop-i.i ≡ 0 = omega (arith, c.loop-i-test.false) in
    let p = c.args.dividend.now in
    let s = c.args.divisor.now in
    let quotient-long : length c.loop-i.quotient ≡ length p = c.loop-i.auto.quotient ∙ c.fill.ensures.len ∙ c.requires.same in
    down_done F L c.args.lead p s c.loop-i.dividend c.loop-i.quotient c.requires.leads c.loop-i.auto.dividend quotient-long
    (subst (λ (n : ℕ). Down F c.args.lead p s n c.loop-i.dividend c.loop-i.quotient) none c.loop-i.invariant)
