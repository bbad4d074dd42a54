use Rattle.std.proofs.Common.{◌≡◌, ℕ, suc, ◌+◌, ◌-◌, ◌*◌, ◌<◌, ◌≢◌, List, ◌++◌, length, get_or, take, drop, sym, ap, ◌∙◌, subst, ap₂, arith}
use Rattle.fields.proofs.Total.{TotalLaws}
use Rattle.linear.specs.Operations.{operations}
use Rattle.linear.proofs.Lawful.{lawful}
use Rattle.linear.specs.Equations.{height, row, reduced, Grid, Solves}
use Rattle.linear.proofs.Grid.{get_or-row, row_zero}
use Rattle.linear.proofs.Kernel.{raised_lead, raised_grid, raised_keeps}
use Rattle.linear.proofs.solve.place_pivot.Goals as goal

pub returns-then-p-gt0 : goal.returns-then-p-gt0
returns-then-p-gt0 g c =
    let f = c.args.f.now in
    let F = operations g.F.Field f in
    let L : TotalLaws F = lawful g.F.Field f (g.met.F.Field.sizes f) (g.met.F.Field.sums f) (g.met.F.Field.products f) (g.met.F.Field.inverses f) in
    let w = length c.args.spare.now in
    let n = height w c.args.rows.now in
    let p = c.in-Some.p in
    let found = c.in-Some.ensures in
    let s = c.args.rows.now in
    let ys = c.subtract_row.new.target in
    let k = p - 1 in
    let pk : p ≡ suc k = omega arith in
    let within : suc k < n = omega (arith, found.0) in
    let whole : w - 0 ≡ w = omega arith in
    let width : p * w + w - p * w ≡ w = omega arith in
    let t : drop (w - 0) s ≡ drop w s = ap (λ m. drop m s) whole in
    let spare : c.copy_from_slice.new.self ≡ row w (suc k) s = c.copy_from_slice.ensures.after ∙ ap (λ m. take m (drop (p * w) s)) width ∙ ap (λ m. row w m s) pk in
    let front : take (w - 0) s ≡ row w 0 s = ap (λ m. take m s) whole ∙ sym (row_zero w s) in
    let is : ys ≡ reduced F (row w 0 s) 1 (row w (suc k) s) = c.subtract_row.ensures ∙ ap₂ (λ a b. reduced F a 1 b) front spare in (
      omega (arith, found.0),
      subst (λ (r : List ℕ). get_or (ys ++ r) c.args.c 0 ≢ 0) (sym t) (raised_lead F L w c.args.c n k s ys c.requires.rows.whole within is c.requires.column c.requires.rows.grid
          (get_or-row w 0 c.args.c s c.requires.column ∙ found.1 0 c.if-p-gt0.true)
          (λ z. found.2 (sym (get_or-row w p c.args.c s c.requires.column) ∙ ap (λ m. get_or (row w m s) c.args.c 0) pk ∙ z))),
      subst (λ (r : List ℕ). Grid F w n (ys ++ r)) (sym t) (raised_grid F L w c.args.c n k s ys c.requires.rows.whole within is c.requires.rows.grid),
      λ u h. raised_keeps F L w c.args.c n k s ys c.requires.rows.whole within is u (subst (λ (r : List ℕ). Solves F w c.args.c n (ys ++ r) u) t h),
    )
