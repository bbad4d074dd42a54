use Rattle.std.proofs.Common.{refl}
use Rattle.layers.proofs.Trim.{trims}
use Rattle.layers.proofs.trimmed.Trimmed.new.Goals as goal

pub returns : goal.returns
returns g c = record {
  meaning = refl;
  trims = trims c.args.by (g.C.Issuer.meaning c.args.code) (g.met.C.Issuer.sound c.args.code);
  need = refl;
}
