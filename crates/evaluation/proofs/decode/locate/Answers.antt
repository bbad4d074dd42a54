use Rattle.std.proofs.Common.{◌≡◌, ℕ, ◌+◌, ◌-◌, ◌*◌, ◌/◌, ◌<◌, ◌≤◌, ◌++◌, length, get_or, take, drop, Ok, sym, ap, ◌∙◌, subst, mul_comm, add-mul, one-mul, mul-add, arith, length-drop}
use Rattle.std.proofs.ByRecursion.{All-get_or}
use Rattle.std.proofs.lemmas.List.{take_at, length-take-le, length-append}
use Rattle.fields.specs.Numbers.{Below}
use Rattle.fields.proofs.Total.{TotalLaws}
use Rattle.linear.specs.Equations.{Solution, solve_check}
use Rattle.linear.specs.Operations.{operations}
use Rattle.linear.proofs.Lawful.{lawful}
use Rattle.evaluation.specs.Decoding.{present, Equations}
use Rattle.evaluation.specs.Counted.{length-present}
use Rattle.evaluation.proofs.Located.{Sizes, located, parts_of}
use Rattle.evaluation.proofs.Locator.{equation-below}
use Rattle.evaluation.specs.Places.{present-all, present-distinct}
use Rattle.evaluation.proofs.Solving.{solve_passes, rows_below}
use Rattle.evaluation.proofs.decode.locate.Goals as goal

pub unreachable-requires : goal.unreachable-requires
unreachable-requires g c =
    let f = c.args.f.now in
    let F = operations g.F.Field f in
    let L : TotalLaws F = lawful g.F.Field f (g.met.F.Field.sizes f) (g.met.F.Field.sums f) (g.met.F.Field.products f) (g.met.F.Field.inverses f) in
    let m = c.args.m in
    let k = length c.args.message.now in
    let t = (m - k) / 2 in
    let w = m + 1 in
    let ms = c.args.received.now.marks.now in
    let ps = c.args.received.now.points.now in
    let rs = c.args.received.now.numbers.now in
    let given = c.requires.given in
    let xs = present ms ps in
    let ys = present ms rs in
    let count : m ≡ length xs = c.requires.count in
    let same : length xs ≡ length ys = omega (arith, length-present ms ps given.points_long, length-present ms rs given.received_long) in
    let old = c.split_at_mut-rows.result.0.now in
    let written = c.write_equations.new.rows in
    let tail = drop (m * w - 0) old in
    let front : length old ≡ w * w = c.split_at_mut-rows.ensures.front_len in
    let area : w * w ≡ m * w + w = add-mul m 1 w ∙ ap (λ (n : ℕ). m * w + n) (one-mul w) in
    let width : m * w - 0 ≡ m * w = omega arith in
    let part : length (take (m * w - 0) old) ≡ m * w = length-take-le (m * w - 0) old (omega arith) ∙ width in
    let long : length written ≡ m * w = c.write_equations.auto.rows ∙ part in
    let rows : Equations F w (m - t) xs ys written = c.write_equations.ensures in
    let unknowns : length c.split_at_mut-solution.result.0.now ≡ w = c.split_at_mut-solution.ensures.front_len in
    let below : Below F.order written = rows_below F.order w m written (sym long)
    (λ i l. subst (Below F.order) (sym (rows i (omega arith)))
    (equation-below F L (m - t) (w - (m - t)) (get_or xs i 0) (get_or ys i 0) (All-get_or (λ y. y < F.order) ys i 0 (omega arith) given.numbers))) in
    let size : (m + 1) * w ≤ length (written ++ tail) = omega (arith, length-append written tail, length-drop (m * w - 0) old, long, front, area) in
    let ok : solve_check F.order (written ++ tail) m (length c.split_at_mut-solution.result.0.now) ≡ Ok tt =
    ap (solve_check F.order (written ++ tail) m) unknowns ∙ solve_passes F.order (written ++ tail) m w (omega arith) size (subst (Below F.order) (sym (take_at written tail (m * w) long)) below) in
    c.in_default.not-Ok tt (c.solve.ensures.answer ∙ ok)

pub divide_out-requires : goal.divide_out-requires
divide_out-requires g c =
    let f = c.args.f.now in
    let F = operations g.F.Field f in
    let L : TotalLaws F = lawful g.F.Field f (g.met.F.Field.sizes f) (g.met.F.Field.sums f) (g.met.F.Field.products f) (g.met.F.Field.inverses f) in
    let m = c.args.m in
    let k = length c.args.message.now in
    let t = (m - k) / 2 in
    let w = m + 1 in
    let ms = c.args.received.now.marks.now in
    let ps = c.args.received.now.points.now in
    let rs = c.args.received.now.numbers.now in
    let given = c.requires.given in
    let xs = present ms ps in
    let ys = present ms rs in
    let count : m ≡ length xs = c.requires.count in
    let same : length xs ≡ length ys = omega (arith, length-present ms ps given.points_long, length-present ms rs given.received_long) in
    let old = c.split_at_mut-rows.result.0.now in
    let written = c.write_equations.new.rows in
    let tail = drop (m * w - 0) old in
    let front : length old ≡ w * w = c.split_at_mut-rows.ensures.front_len in
    let area : w * w ≡ m * w + w = add-mul m 1 w ∙ ap (λ (n : ℕ). m * w + n) (one-mul w) in
    let width : m * w - 0 ≡ m * w = omega arith in
    let part : length (take (m * w - 0) old) ≡ m * w = length-take-le (m * w - 0) old (omega arith) ∙ width in
    let long : length written ≡ m * w = c.write_equations.auto.rows ∙ part in
    let rows : Equations F w (m - t) xs ys written = c.write_equations.ensures in
    let unknowns : length c.split_at_mut-solution.result.0.now ≡ w = c.split_at_mut-solution.ensures.front_len in
    let v = c.solve.new.solution in
    let p = c.split_at_mut-q0.result.0.now in
    let s = c.split_at_mut-q0.result.1.now in
    let solved : Solution F w m (written ++ tail) v = subst (λ (n : ℕ). Solution F n m (written ++ tail) v) unknowns c.in-Ok.ensures.solved in
    let split : v ≡ p ++ s = c.split_at_mut-q0.ensures.value in
    let p-long : length p ≡ m - t = c.split_at_mut-q0.ensures.front_len in
    let s-long : length s + (m - t) ≡ length v = c.split_at_mut-q0.ensures.back_len in
    let v-long : length v ≡ w = solved.long in
    let rest : length s ≡ w - (m - t) = omega arith in
    let distinct = present-distinct ms ps given.distinct in
    let below = present-all (λ x. x < F.order) ms ps given.below in
    let parts = parts_of F L m w (m - t) xs ys written tail p s v count (sym long) rows solved split p-long rest (omega arith) distinct below same in
    let room = c.split_at_mut-solution.result.1.now in
    let back₁ : length c.split_at_mut-rows.result.1.now + w * w ≡ length c.args.room.now = c.split_at_mut-rows.ensures.back_len in
    let back₂ : length room + w ≡ length c.split_at_mut-rows.result.1.now = c.split_at_mut-solution.ensures.back_len in
    let enough : k ≤ m = c.requires.enough in
    let three : m + 3 ≡ w + 2 = omega arith in
    let all : (m + 1) * (m + 3) ≡ w * w + w + w = ap (λ (n : ℕ). w * n) three ∙ mul-add w w 2 ∙ omega (arith, mul_comm w 2) in
    let whole : m - t - 0 ≡ m - t = omega arith in
    let fits : m - t ≤ length room = omega (arith, back₁, back₂, all, c.requires.room) in
    record {
      dividend = parts.first;
      divisor = parts.second;
      nonzero = parts.nonzero;
      room = length-take-le (m - t - 0) room (omega (arith, fits)) ∙ whole ∙ sym p-long;
      fits = omega (arith, p-long, enough);
    }

pub returns : goal.returns
returns g c =
    let f = c.args.f.now in
    let F = operations g.F.Field f in
    let L : TotalLaws F = lawful g.F.Field f (g.met.F.Field.sizes f) (g.met.F.Field.sums f) (g.met.F.Field.products f) (g.met.F.Field.inverses f) in
    let m = c.args.m in
    let k = length c.args.message.now in
    let t = (m - k) / 2 in
    let w = m + 1 in
    let ms = c.args.received.now.marks.now in
    let ps = c.args.received.now.points.now in
    let rs = c.args.received.now.numbers.now in
    let given = c.requires.given in
    let xs = present ms ps in
    let ys = present ms rs in
    let count : m ≡ length xs = c.requires.count in
    let same : length xs ≡ length ys = omega (arith, length-present ms ps given.points_long, length-present ms rs given.received_long) in
    let old = c.split_at_mut-rows.result.0.now in
    let written = c.write_equations.new.rows in
    let tail = drop (m * w - 0) old in
    let front : length old ≡ w * w = c.split_at_mut-rows.ensures.front_len in
    let area : w * w ≡ m * w + w = add-mul m 1 w ∙ ap (λ (n : ℕ). m * w + n) (one-mul w) in
    let width : m * w - 0 ≡ m * w = omega arith in
    let part : length (take (m * w - 0) old) ≡ m * w = length-take-le (m * w - 0) old (omega arith) ∙ width in
    let long : length written ≡ m * w = c.write_equations.auto.rows ∙ part in
    let rows : Equations F w (m - t) xs ys written = c.write_equations.ensures in
    let unknowns : length c.split_at_mut-solution.result.0.now ≡ w = c.split_at_mut-solution.ensures.front_len in
    let v = c.solve.new.solution in
    let p = c.split_at_mut-q0.result.0.now in
    let s = c.split_at_mut-q0.result.1.now in
    let solved : Solution F w m (written ++ tail) v = subst (λ (n : ℕ). Solution F n m (written ++ tail) v) unknowns c.in-Ok.ensures.solved in
    let split : v ≡ p ++ s = c.split_at_mut-q0.ensures.value in
    let p-long : length p ≡ m - t = c.split_at_mut-q0.ensures.front_len in
    let s-long : length s + (m - t) ≡ length v = c.split_at_mut-q0.ensures.back_len in
    let v-long : length v ≡ w = solved.long in
    let rest : length s ≡ w - (m - t) = omega arith in
    let distinct = present-distinct ms ps given.distinct in
    let below = present-all (λ x. x < F.order) ms ps given.below in
    let parts = parts_of F L m w (m - t) xs ys written tail p s v count (sym long) rows solved split p-long rest (omega arith) distinct below same in
    let enough : k ≤ m = c.requires.enough in
    let sizes : Sizes p s xs k t = record {
      locator = omega arith;
      whole = omega (arith, p-long, count);
      half = omega arith;
      floor = omega arith;
    } in
    located F L p s xs ys c.args.message.now c.divide_out.new.message t c.divide_out.result sizes parts.first parts.second parts.nonzero distinct below given.numbers same parts.meets c.divide_out.auto.message c.divide_out.ensures
