use Rattle.std.proofs.Common.{◌≡◌, ℕ, ◌+◌, ◌-◌, ◌*◌, ◌<◌, ◌≤◌, length, take, Ok, sym, ap, ◌∙◌, subst, suc-mul, add-one, arith}
use Rattle.std.proofs.lemmas.List.{length-take-le}
use Rattle.std.proofs.lemmas.Slice.{drop-append-drop}
use Rattle.fields.specs.Numbers.{Below}
use Rattle.linear.specs.Equations.{row, dot, solve_check}
use Rattle.linear.specs.Operations.{operations}
use Rattle.linear.proofs.Grid.{row_ends, row-taken, below_row}
use Rattle.linear.proofs.Passed.{passed_system}
use Rattle.linear.proofs.solve.solve.Goals as goal

pub solve_rows-requires : goal.solve_rows-requires
solve_rows-requires g c =
    let q = (operations g.F.Field c.args.f.now).order in
    let w = length c.args.solution.now in
    let n = c.args.count in
    let s = c.args.scratch.now in
    let checked : Ok tt ≡ solve_check q s n w = c.in_ok-check_system.ensures ∙ ap (λ o. solve_check o s n w) c.order.ensures in
    let passed : (n < w) × ((n + 1) * w ≤ length s) × Below q (take (n * w) s) = passed_system q n w s checked in
    let times : (n + 1) * w ≡ n * w + w = ap (λ m. m * w) (add-one n) ∙ suc-mul n w in
    let whole : (n + 1) * w - 0 ≡ (n + 1) * w = omega arith in
    record {
      unknowns = passed.0;
      size = sym (length-take-le ((n + 1) * w - 0) s (omega arith) ∙ whole);
      grid = λ i l. subst (Below q) (sym (row-taken w i ((n + 1) * w - 0) s (omega (arith, row_ends i n w l)))) (below_row q w i (n * w) s (row_ends i n w l) passed.2);
    }

pub returns : goal.returns
returns g c =
    let F = operations g.F.Field c.args.f.now in
    let w = length c.args.solution.now in
    let n = c.args.count in
    let s = c.args.scratch.now in
    let v = c.solve_rows.new.solution in
    let checked : Ok tt ≡ solve_check F.order s n w = c.in_ok-check_system.ensures ∙ ap (λ o. solve_check o s n w) c.order.ensures in
    let passed : (n < w) × ((n + 1) * w ≤ length s) × Below F.order (take (n * w) s) = passed_system F.order n w s checked in
    let times : (n + 1) * w ≡ n * w + w = ap (λ m. m * w) (add-one n) ∙ suc-mul n w in
    let whole : (n + 1) * w - 0 ≡ (n + 1) * w = omega arith in
    let solved : (i : ℕ) → i < n → dot F (row w i (take ((n + 1) * w - 0) s)) v ≡ 0 = c.solve_rows.ensures.solves in
    record {
      answer = checked;
      solved = record {
        long = c.solve_rows.ensures.long;
        below = c.solve_rows.ensures.below;
        nonzero = c.solve_rows.ensures.nonzero;
        solves = λ i l. ap (λ r. dot F r v) (sym (row-taken w i ((n + 1) * w - 0) s (omega (arith, row_ends i n w l)))) ∙ solved i l;
      };
      rest = drop-append-drop ((n + 1) * w - 0) s c.solve_rows.new.room ((n + 1) * w) (omega arith) (c.solve_rows.auto.room ∙ length-take-le ((n + 1) * w - 0) s (omega arith));
    }
