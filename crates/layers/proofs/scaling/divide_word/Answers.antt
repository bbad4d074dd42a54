use Rattle.std.proofs.Common.{◌<◌, length, take, sym, ◌∙◌, arith}
use Rattle.std.proofs.lemmas.List.{ext_get_or, get_or-take, length-take-le}
use Rattle.fields.specs.Arithmetic.{total}
use Rattle.layers.specs.Scaled.{quotients}
use Rattle.layers.specs.Products.{none_written, more_written, same_written, quotient_at, at-unmarked, at-marked, length-quotients, get_or-quotients}
use Rattle.layers.proofs.scaling.divide_word.Goals as goal
use Rattle.layers.proofs.scaling.divide_word.Goals.{then-mark-eq0, else-mark-eq0}

pub loop-i-init : goal.loop-i-init
loop-i-init g c = none_written 128 _ c.blank-word.result c.blank-word.ensures

pub loop-i-preserved : goal.loop-i-preserved
loop-i-preserved g c =
    let F = total (g.F.Field.arithmetic c.args.field.now) in
    let xs = g.M.Numbers.listed c.args.multipliers.now in
    let rs = c.args.received.now in
    let ms = c.args.marks.now in
    let i = c.loop-i.i in
    let h : i < 128 = omega arith in
    elim c.if-mark-eq0.branch [
      | then-mark-eq0 w ↦ rw w.word-is (more_written 128 (quotient_at F xs rs ms) i w.divide.result c.loop-i.word h (at-unmarked F xs rs ms i w.at.result w.divide.result w.if-mark-eq0.true w.at.ensures w.divide.ensures) c.loop-i.invariant)
      | else-mark-eq0 w ↦ rw w.word-is (same_written 128 (quotient_at F xs rs ms) i c.loop-i.word (at-marked F xs rs ms i w.if-mark-eq0.false) c.loop-i.invariant)
    ]

pub returns : goal.returns
returns g c =
    let F = total (g.F.Field.arithmetic c.args.field.now) in
    let xs = g.M.Numbers.listed c.args.multipliers.now in
    let rs = c.args.received.now in
    let ms = c.args.marks.now in
    let n = length ms in
    let word = c.loop-i.word in
    let whole = c.loop-i.invariant.long in
    let all = length-take-le n word (omega arith) in
    let long = length-quotients F xs rs ms c.requires.multipliers c.requires.received in
    ext_get_or 0 (take n word) (quotients F xs rs ms) (omega arith)
    (λ k h. get_or-take n word k 0 (omega arith) ∙ c.loop-i.invariant.done k (omega arith) ∙ sym (get_or-quotients F xs rs ms k c.requires.multipliers c.requires.received (omega arith)))
