use Rattle.std.proofs.Common.{◌≡◌, ◌+◌, ◌-◌, ◌*◌, ◌<◌, ◌≤◌, length, get_or, take, drop, sym, inl, inr, ap, ◌∙◌, ap₂, arith, below_more}
use borrow.Rule.Slice.PartMut.{put_mid}
use Rattle.std.proofs.lemmas.List.{length-drop, nil_from_length}
use Rattle.linear.specs.Operations.{operations}
use Rattle.linear.specs.Equations.{row}
use Rattle.evaluation.specs.Decoding.{present, equation}
use Rattle.linear.proofs.Grid.{row_ends, length-row, row_other, row_same}
use Rattle.evaluation.specs.Places.{here, skipped}
use Rattle.evaluation.specs.Counted.{length-present}
use Rattle.evaluation.proofs.equations.write_equations.Given as given
use Rattle.evaluation.proofs.equations.write_equations.Goals as goal

-- there is a row for the next place
next-row : (g : given.Over) (c : goal.Then-mark-eq0 g) → c.loop-x.r < length (present c.args.received.now.marks.now c.args.received.now.points.now)
next-row g c =
    let step = c.in-Some.ensures.steps in
    (here c.loop-x.r c.in-Some.x.now c.in-Some.mark.now (present c.args.received.now.marks.now c.args.received.now.points.now) _ _ _ _ step.1 step.0.0 c.if-mark-eq0.true c.loop-x.invariant.2).0

within : (g : given.Over) (c : goal.Then-mark-eq0 g) → c.loop-x.r * c.args.w + c.args.w ≤ length c.loop-x.rows
within g c =
    let xs = present c.args.received.now.marks.now c.args.received.now.points.now in
    let size : length xs * c.args.w ≡ length c.args.rows.now = c.requires.size in
    let kept : length c.loop-x.rows ≡ length c.args.rows.now = c.loop-x.auto.rows in
    omega (arith, row_ends c.loop-x.r (length xs) c.args.w (next-row g c))

pub slice_bounds-write_equation-end : goal.slice_bounds-write_equation-end
slice_bounds-write_equation-end g c = omega (arith, within g c)

pub overflow_add-r : goal.overflow_add-r
overflow_add-r g c =
    let xs = present c.args.received.now.marks.now c.args.received.now.points.now in
    let step = c.in-Some.ensures.steps in
    let first = here c.loop-x.r c.in-Some.x.now c.in-Some.mark.now xs _ _ _ _ step.1 step.0.0 c.if-mark-eq0.true c.loop-x.invariant.2 in
    omega (arith, first.0, length-present c.args.received.now.marks.now c.args.received.now.points.now (omega arith))

pub loop-x-preserved-then-mark-eq0 : goal.loop-x-preserved-then-mark-eq0
loop-x-preserved-then-mark-eq0 g c =
    let F = operations g.F.Field c.args.f.now in
    let w = c.args.w in
    let a = c.args.a in
    let xs = present c.args.received.now.marks.now c.args.received.now.points.now in
    let ys = present c.args.received.now.marks.now c.args.received.now.numbers.now in
    let r = c.loop-x.r in
    let s = c.loop-x.rows in
    let x = c.in-Some.x.now in
    let y = c.in-Some.y.now in
    let d = r * w + w - r * w in
    let width : d ≡ w = omega arith in
    let step = c.in-Some.ensures.steps in
    let inv = c.loop-x.invariant in
    let first = here r x c.in-Some.mark.now xs _ _ _ _ step.1 step.0.0 c.if-mark-eq0.true inv.2 in
    let second = here r y c.in-Some.mark.now ys _ _ _ _ step.1 step.0.1 c.if-mark-eq0.true inv.3 in
    let size : length xs * w ≡ length c.args.rows.now = c.requires.size in
    let kept : length s ≡ length c.args.rows.now = c.loop-x.auto.rows in
    let ends : r * w + w ≤ length s = omega (arith, row_ends r (length xs) w first.0) in
    let target = c.write_equation.new.row in
    let part : length (take d (drop (r * w) s)) ≡ w = ap (λ n. length (take n (drop (r * w) s))) width ∙ length-row w r s ends in
    let long : length target ≡ w = c.write_equation.auto.row ∙ part in
    let is : target ≡ equation F a (w - a) (get_or xs r 0) (get_or ys r 0) =
    c.write_equation.ensures ∙ ap (λ n. equation F a (n - a) x y) part ∙ ap₂ (λ u v. equation F a (w - a) u v) (sym first.1) (sym second.1) in (
      omega (arith, ap length step.0.0, ap length step.1, inv.0),
      omega (arith, ap length step.0.1, ap length step.1, inv.1),
      first.2,
      second.2,
      λ i l. below_more (λ k. row w k (put_mid (r * w) d s target) ≡ equation F a (w - a) (get_or xs k 0) (get_or ys k 0)) r
          (λ k lk. row_other w r d k s target width (omega arith) long (omega arith) ∙ inv.4 k lk)
          (row_same w r d s target (omega arith) long ∙ is) i (omega arith),
    )

pub loop-x-preserved : goal.loop-x-preserved
loop-x-preserved g c =
    let xs = present c.args.received.now.marks.now c.args.received.now.points.now in
    let ys = present c.args.received.now.marks.now c.args.received.now.numbers.now in
    let step = c.in-Some.ensures.steps in
    let inv = c.loop-x.invariant in (
      omega (arith, ap length step.0.0, ap length step.1, inv.0),
      omega (arith, ap length step.0.1, ap length step.1, inv.1),
      skipped c.loop-x.r c.in-Some.x.now c.in-Some.mark.now xs _ _ _ _ step.1 step.0.0 c.if-mark-eq0.false inv.2,
      skipped c.loop-x.r c.in-Some.y.now c.in-Some.mark.now ys _ _ _ _ step.1 step.0.1 c.if-mark-eq0.false inv.3,
      inv.4,
    )

pub returns : goal.returns
returns g c i l =
    let ms = c.args.received.now.marks.now in
    let ps = c.args.received.now.points.now in
    let r = c.loop-x.r in
    let inv = c.loop-x.invariant in
    let points = c.loop-x.x-iterator.a.a.rest.now in
    let marks = c.loop-x.x-iterator.b.rest.now in
    let ended : length marks ≡ 0 = elim c.in-None.ensures.steps [
      | inl e ↦ elim e.1 [ inl e' ↦ sym inv.0 ∙ e'.1.0 | inr e' ↦ sym inv.1 ∙ e'.1.0 ]
      | inr e ↦ e.1.0
    ] in
    let none : length (drop r (present ms ps)) ≡ 0 = ap length (inv.2 ∙ ap (λ t. present t points) (nil_from_length marks ended)) in
    inv.4 i (omega (arith, length-drop r (present ms ps)))
