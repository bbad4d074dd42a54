use Rattle.std.proofs.Common.{◌≡◌, length, sym, ◌∙◌, arith}
use Rattle.std.proofs.lemmas.List.{ext_get_or}
use Rattle.fields.specs.Arithmetic.{total}
use Rattle.layers.specs.Products.{length-products, get_or-products}
use Rattle.layers.proofs.scaling.scale_word.Goals as goal

pub returns : goal.returns
returns g c =
    let F = total (g.F.Field.arithmetic c.args.field.now) in
    let xs = g.M.Numbers.listed c.args.multipliers.now in
    let ys = c.args.word.now in
    let same : length xs ≡ length ys = c.requires in
    let long = length-products F xs ys same in
    ext_get_or 0 _ _ (omega arith) (λ k h. c.loop-i.invariant.0 k (omega arith) ∙ sym (get_or-products F xs ys k same (omega arith)))
