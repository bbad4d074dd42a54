use Rattle.std.proofs.Common.{◌≡◌, ◌+◌, ◌-◌, ◌*◌, ◌≤◌, length, get_or, ap, ◌∙◌, arith}
use Rattle.file.specs.Writes.{strip_by}
use Rattle.file.proofs.Putting.{within, strips-more, length-strip_by}
use Rattle.file.proofs.writing.Words.put_strips.Goals as goal

pub loop-place-preserved : goal.loop-place-preserved
loop-place-preserved c =
    let w = within c.loop-place.place c.args.self.now.long (1 + 2 * c.args.self.now.depth) c.loop-place-test.true in
    let k = c.loop-place.auto.output in
    let at = c.loop-place.place * (1 + 2 * c.args.self.now.depth) in
    let room : at ≤ length c.loop-place.output = omega (arith, c.requires.output) in
    let l : length c.put_strip.new.output ≡ 1 + 2 * c.args.self.now.depth = ap length c.put_strip.ensures ∙ length-strip_by (λ r j. get_or c.args.self.now.numbers.now (r * c.args.self.now.long + j) 0) c.args.self.now.depth c.loop-place.place in
    strips-more c.loop-place.output c.put_strip.new.output c.loop-place.place (1 + 2 * c.args.self.now.depth) ((at + (1 + 2 * c.args.self.now.depth)) - at) (strip_by (λ r j. get_or c.args.self.now.numbers.now (r * c.args.self.now.long + j) 0) c.args.self.now.depth) room l c.loop-place.invariant c.put_strip.ensures
