use Rattle.std.proofs.Common.{refl}
use Rattle.layers.proofs.Scale.{scales}
use Rattle.layers.specs.ScaledSound.{lawful}
use Rattle.layers.proofs.scaled.Scaled.new.Goals as goal

pub returns : goal.returns
returns g c =
    let f = c.args.field in
    let law = g.met.F.Field in
    record {
      meaning = refl;
      scales = scales (g.F.Field.arithmetic f) (lawful (law.sizes f) (law.sums f) (law.products f) (law.inverses f)) (g.M.Numbers.listed c.args.multipliers) (g.C.Issuer.meaning c.args.code) (g.met.C.Issuer.sound c.args.code);
      need = refl;
    }
