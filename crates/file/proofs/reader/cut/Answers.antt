use Rattle.std.proofs.Common.{◌≡◌, ◌+◌, ◌-◌, ◌*◌, ◌/◌, ◌<◌, length, arith}
use Rattle.file.proofs.Forms.{piece, length-strips_in}
use Rattle.file.proofs.reader.cut.Goals as goal

pub returns-then-i-strips : goal.returns-then-i-strips
returns-then-i-strips c =
    let count = length-strips_in c.args.depth (length c.args.strips.now / (1 + 2 * c.args.depth)) c.args.strips.now in
    omega (arith, count, rw c.from.ensures at c.if-i-strips.true)

pub returns : goal.returns
returns c =
    let xs = c.args.strips.now in
    let i = c.args.i in
    let w = 1 + 2 * c.args.depth in
    let count = length-strips_in c.args.depth (length xs / w) xs in
    let inside : i < length xs / w = omega (arith, rw c.from.ensures at c.if-i-strips.false) in
    let exact : i * w + w - i * w ≡ w = omega arith in
    (omega (arith, count, inside), λ d. rw (c.from.ensures, exact) (piece c.args.depth xs i d (λ i. (c.type_inv.strips i).fits) inside))
