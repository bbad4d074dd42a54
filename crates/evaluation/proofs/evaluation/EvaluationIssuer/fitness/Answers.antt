use Rattle.std.proofs.Common.{◌≡◌, ℕ, ◌-◌, List, [], length, take, Ok, sym, ap, ◌∙◌, ap₂, arith}
use Rattle.fields.specs.Checks.{Check, and_then}
use Rattle.codes.specs.declared.fault.FitnessFault.{FitnessFault}
use Rattle.codes.proofs.Lists.{front-filled}
use Rattle.evaluation.specs.Evaluation.{shape_check, point_check}
use Rattle.evaluation.specs.Checked.{split_shape}
use Rattle.evaluation.proofs.evaluation.EvaluationIssuer.fitness.Goals as goal

pub returns : goal.returns
returns g c =
    let s = c.args.self.now in
    let n = s.length in
    let ps = g.P.Numbers.listed s.points in
    let shape : shape_check n s.dimension (length ps) ≡ Ok tt = sym (c.in_ok-check_shape.ensures ∙ ap₂ (λ (a b : ℕ). shape_check a b c.count.result) c.from-n.ensures c.from.ensures ∙ ap (shape_check n s.dimension) c.count.ensures) in
    let p = split_shape n s.dimension (length ps) shape in
    let whole : c.from-n.result - 0 ≡ n = omega (arith, c.from-n.ensures) in
    let is : take (c.from-n.result - 0) c.gather-points.result ≡ ps =
    ap (λ (i : ℕ). take i c.gather-points.result) whole ∙ ap (take n) c.gather-points.ensures ∙ front-filled 128 n ps p.2 p.1 in
    c.check_points.ensures ∙ ap₂ (λ (q : ℕ) (xs : List ℕ). point_check q [] 0 xs) c.order.ensures is
    ∙ sym (ap (λ (x : Check FitnessFault). and_then x (point_check (g.F.Field.arithmetic s.field).order [] 0 ps)) shape)
