use Rattle.std.proofs.Common.{◌<◌, sym, subst}
use Rattle.fields.specs.Binary.{remainder}
use Rattle.fields.specs.Bytes.{times_below}
use Rattle.fields.proofs.gf256.multiply_bytes.Goals as goal

pub overflow_cast-result : goal.overflow_cast-result
overflow_cast-result c =
    record { fits = subst (λ x. x < 256) (sym c.reduce_by.ensures) (subst (λ x. remainder 285 8 x < 256) (sym c.multiply_carryless.ensures) (times_below c.args.a c.args.b c.ranges.a.fits c.ranges.b.fits)) }
