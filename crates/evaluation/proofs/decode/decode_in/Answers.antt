use Rattle.std.proofs.Common.{◌+◌, ◌-◌, ◌≤◌, length, mul-le-mul, arith}
use Rattle.std.proofs.lemmas.Result.{err_from_is_err_and}
use Rattle.evaluation.specs.Counted.{length-present}
use Rattle.evaluation.specs.Evaluated.{solved-ok, solved-err}
use Rattle.evaluation.proofs.decode.decode_in.Goals as goal

pub overflow_sub-m : goal.overflow_sub-m
overflow_sub-m g c = omega (arith, c.count_missing.ensures, length-present c.args.received.now.marks.now c.args.received.now.points.now c.requires.given.points_long, c.requires.given.points_long)

pub locate-requires : goal.locate-requires
locate-requires g c =
    let n = length c.args.received.now.points.now in
    let m = n - c.count_missing.result in
    let a : m + 1 ≤ n + 1 = omega arith in
    let b : m + 3 ≤ n + 3 = omega arith in
    record {
      given = c.requires.given;
      count = omega (arith, c.count_missing.ensures, length-present c.args.received.now.marks.now c.args.received.now.points.now c.requires.given.points_long, c.requires.given.points_long);
      enough = c.if-m-message.false;
      dimension = c.requires.dimension;
      room = omega (arith, mul-le-mul a b, c.requires.room);
    }

pub returns-in_err-locate : goal.returns-in_err-locate
returns-in_err-locate g c =
    let F = g.F.Field.arithmetic c.args.f.now in
    let p = err_from_is_err_and c.from_residual.result c.from_residual.ensures.1 in
    let h = c.in_err-locate.ensures in
    rw (p.1, p.2) (solved-err F c.args.received.now.points.now c.args.received.now.numbers.now c.args.received.now.marks.now c.args.message.now c.locate.new.message
    c.requires.given.points_long c.requires.given.received_long c.locate.auto.message c.requires.fits c.requires.dimension c.in_err-locate.field-0.0 h)

pub returns : goal.returns
returns g c =
    let F = g.F.Field.arithmetic c.args.f.now in
    solved-ok F c.args.received.now.points.now c.args.received.now.numbers.now c.args.received.now.marks.now c.args.message.now c.locate.new.message
    c.requires.given.points_long c.requires.given.received_long c.locate.auto.message c.requires.fits c.requires.dimension c.count_wrong.result c.in_ok-locate.ensures c.count_wrong.ensures
