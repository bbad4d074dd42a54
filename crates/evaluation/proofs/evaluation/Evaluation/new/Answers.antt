use Rattle.std.proofs.Common.{refl}
use Rattle.fields.specs.Laws.{Laws}
use Rattle.evaluation.specs.Evaluated.{evaluates}
use Rattle.evaluation.proofs.evaluation.Evaluation.new.Goals as goal

pub returns : goal.returns
returns g c =
    let x = c.args.field in
    let L : Laws (g.F.Field.arithmetic x) = record { sizes = g.met.F.Field.sizes x; sums = g.met.F.Field.sums x; products = g.met.F.Field.products x; inverses = g.met.F.Field.inverses x } in
    record {
      meaning = refl;
      evaluates = evaluates (g.F.Field.arithmetic x) L c.args.n c.args.k (g.P.Numbers.listed c.args.points);
      need = refl;
    }
