use Rattle.std.proofs.Common.{◌≡◌, ℕ, ◌+◌, ◌*◌, ◌<◌, ◌++◌, length, sym, ap, ◌∙◌, subst, suc-mul, add-one, arith}
use Rattle.fields.specs.Numbers.{Below}
use Rattle.linear.specs.Equations.{height, row, dot, Grid}
use Rattle.linear.specs.Operations.{operations}
use Rattle.linear.proofs.Grid.{height_is, row-front}
use Rattle.linear.proofs.solve.solve_rows.Goals as goal

pub eliminate-requires : goal.eliminate-requires
eliminate-requires g c =
    let F = operations g.F.Field c.args.f.now in
    let w = length c.args.solution.now in
    let n = c.args.count in
    let rows = c.split_at_mut-rows.result.0.now in
    let spare = c.split_at_mut-rows.result.1.now in
    let value : c.args.room.now ≡ rows ++ spare = c.split_at_mut-rows.ensures.value in
    let front : length rows ≡ n * w = c.split_at_mut-rows.ensures.front_len in
    let back : length spare + n * w ≡ length c.args.room.now = c.split_at_mut-rows.ensures.back_len in
    let times : (n + 1) * w ≡ n * w + w = ap (λ m. m * w) (add-one n) ∙ suc-mul n w in
    let high : height w rows ≡ n = height_is w n rows (omega (arith, c.requires.unknowns)) (sym front) in
    let grid : Grid F w n rows = λ i l. subst (Below F.order) (ap (row w i) value ∙ row-front w i n rows spare (sym front) l) (c.requires.grid i l) in
    record {
      column = omega (arith, c.requires.unknowns, high);
      room = omega (arith, c.requires.size);
      rows = record { whole = ap (λ m. m * w) high ∙ sym front; grid = subst (λ m. Grid F w m rows) (sym high) grid };
    }

pub returns : goal.returns
returns g c =
    let F = operations g.F.Field c.args.f.now in
    let w = length c.args.solution.now in
    let n = c.args.count in
    let rows = c.split_at_mut-rows.result.0.now in
    let spare = c.split_at_mut-rows.result.1.now in
    let v = c.eliminate.new.v in
    let value : c.args.room.now ≡ rows ++ spare = c.split_at_mut-rows.ensures.value in
    let front : length rows ≡ n * w = c.split_at_mut-rows.ensures.front_len in
    let high : height w rows ≡ n = height_is w n rows (omega (arith, c.requires.unknowns)) (sym front) in
    let solved : (i : ℕ) → i < n → dot F (row w i rows) v ≡ 0 = λ i l. c.eliminate.ensures.solves i (omega (arith, high)) in
    record {
      long = c.eliminate.auto.v;
      below = c.eliminate.ensures.below;
      nonzero = c.eliminate.ensures.nonzero;
      solves = λ i l. ap (λ r. dot F r v) (ap (row w i) value ∙ row-front w i n rows spare (sym front) l) ∙ solved i l;
    }
