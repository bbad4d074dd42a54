use Rattle.std.proofs.Common.{◌≡◌, ℕ, ◌+◌, ◌*◌, ◌/◌, ◌%◌, ◌<◌, ◌≤◌, List, length, get_or, ap, ◌∙◌, arith, length-set}
use Rattle.std.proofs.lemmas.List.{take_more_set}
use Rattle.file.proofs.Putting.{strip-more}
use Rattle.file.proofs.writing.Words.put_strip.Goals as goal

pub loop-row-init : goal.loop-row-init
loop-row-init c =
    let l : 0 < length c.args.output.now = omega (arith, c.requires.output) in
    take_more_set c.args.output.now 0 c.args.place l

pub loop-row-preserved : goal.loop-row-preserved
loop-row-preserved c =
    let k = c.loop-row.auto.output in
    let at = c.loop-row.row in
    let x = get_or c.args.self.now.numbers.now (at * c.args.self.now.long + c.args.place) 0 in
    let bytes = c.to_be_bytes.ensures in
    let high : get_or c.to_be_bytes.result 0 0 ≡ x / 256 = ap (λ (b : List ℕ). get_or b 0 0) bytes ∙ (let z : x / 256 % 256 ≡ x / 256 = omega arith in z) in
    let low : get_or c.to_be_bytes.result 1 0 ≡ x % 256 = ap (λ (b : List ℕ). get_or b 1 0) bytes in
    let room : 1 + 2 * (at + 1) ≤ length c.loop-row.output = omega (arith, c.requires.output, length-set c.args.output.now 0 c.args.place) in
    rw (high, low) (strip-more c.loop-row.output c.args.place at (λ r. get_or c.args.self.now.numbers.now (r * c.args.self.now.long + c.args.place) 0) room c.loop-row.invariant)
