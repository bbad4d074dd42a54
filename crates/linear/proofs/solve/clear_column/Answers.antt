use Rattle.std.proofs.Common.{◌≡◌, ℕ, ◌+◌, ◌-◌, ◌*◌, ◌≤◌, List, length, get_or, take, drop, sym, ap, ◌∙◌, arith}
use Rattle.linear.specs.Operations.{operations}
use Rattle.linear.specs.Equations.{height, row, reduced}
use Rattle.linear.proofs.Grid.{row_ends, get_or-row, length-row, rows_more}
use Rattle.linear.proofs.solve.clear_column.Goals as goal

pub loop-k-preserved : goal.loop-k-preserved
loop-k-preserved g c =
    let F = operations g.F.Field c.args.f.now in
    let w = length c.args.pivot.now in
    let n = height w c.args.rows.now in
    let k = c.loop-k.k in
    let s = c.loop-k.rows in
    let old = c.args.rows.now in
    let G : ℕ → List ℕ = λ j. reduced F (row w j old) (get_or (row w j old) c.args.c 0) c.args.pivot.now in
    let ends : k * w + w ≤ n * w = row_ends k n w c.loop-k-test.true in
    let width : k * w + w - k * w ≡ w = omega arith in
    let here : row w k s ≡ row w k old = c.loop-k.invariant.1 k (omega arith) in
    let by : get_or s (k * w + c.args.c) 0 ≡ get_or (row w k old) c.args.c 0 = sym (get_or-row w k c.args.c s (omega arith)) ∙ ap (λ r. get_or r c.args.c 0) here in
    let is : c.subtract_row.new.target ≡ G k =
    c.subtract_row.ensures
    ∙ ap (λ t. reduced F t (get_or s (k * w + c.args.c) 0) c.args.pivot.now) (ap (λ n. take n (drop (k * w) s)) width ∙ here)
    ∙ ap (λ b. reduced F (row w k old) b c.args.pivot.now) by in
    rows_more G w k (k * w + w - k * w) s old c.subtract_row.new.target width (omega arith)
    (c.subtract_row.auto.target ∙ ap (λ n. length (take n (drop (k * w) s))) width ∙ length-row w k s (omega arith)) is c.loop-k.invariant.0 c.loop-k.invariant.1
