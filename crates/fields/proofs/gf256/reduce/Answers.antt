use Rattle.std.proofs.Common.{sym, subst, arith}
use Rattle.fields.specs.Binary.{Remains}
use Rattle.fields.proofs.Division.{remains}
use Rattle.fields.proofs.gf256.reduce.Goals as goal

pub returns : goal.returns
returns c =
    let x = c.args.x in
    let is = c.reduce_by.ensures in
    record { value = is; remains = subst (Remains x) (sym is) (remains x (omega arith)) }
