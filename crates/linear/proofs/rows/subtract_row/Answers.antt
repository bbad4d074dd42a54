use Rattle.std.proofs.Common.{◌≡◌, length, sym, ◌∙◌, arith}
use Rattle.std.proofs.lemmas.List.{ext_get_or}
use Rattle.linear.specs.Operations.{operations}
use Rattle.linear.proofs.Lists.{get_or-added, length-added}
use Rattle.linear.proofs.rows.subtract_row.Goals as goal

pub returns : goal.returns
returns g c =
    let F = operations g.F.Field c.args.f.now in
    let b = F.opposite c.args.by in
    let t = c.args.target.now in
    let p = c.args.pivot.now in
    let same : length p ≡ length t = c.requires.same in
    let long = length-added F b t p same in
    ext_get_or 0 _ _ (omega arith) (λ k h. c.loop-i.invariant.0 k (omega arith) ∙ sym (get_or-added F b t p k same (omega arith)))
