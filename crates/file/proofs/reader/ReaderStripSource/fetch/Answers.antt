use Rattle.std.proofs.Common.{◌≡◌, ◌+◌, ◌*◌, ◌/◌, [], length, sym, ap, ◌∙◌}
use Rattle.file.specs.Form.{strip, numbers_in}
use Rattle.file.specs.Reads.{strips_of}
use Rattle.file.proofs.Delivering.{fetched}
use Rattle.file.proofs.Forms.{deep_in}
use Rattle.file.proofs.reader.ReaderStripSource.fetch.Goals as goal

pub widen-requires : goal.widen-requires
widen-requires c =
    let r = c.args.self.now in
    let e = c.in_ok-place.ensures in
    let n = length r.strips.now / (1 + 2 * r.heading.depth) in
    let deep : length c.args.numbers.now ≡ r.heading.depth = c.if-numbers-from.false ∙ c.from.ensures in
    let f = fetched (strips_of r) r.heading.depth c.args.i c.in_ok-place.place c.in_ok-place.bytes.now (strip 0 []) (deep_in r.heading.depth n r.strips.now) e.0 (e.1 (strip 0 [])).0 (e.1 (strip 0 [])).1 in
    f.0 ∙ ap (λ k. 2 * k) (sym deep)

pub returns : goal.returns
returns c =
    let r = c.args.self.now in
    let e = c.in_ok-place.ensures in
    let n = length r.strips.now / (1 + 2 * r.heading.depth) in
    let deep : length c.args.numbers.now ≡ r.heading.depth = c.if-numbers-from.false ∙ c.from.ensures in
    let f = fetched (strips_of r) r.heading.depth c.args.i c.in_ok-place.place c.in_ok-place.bytes.now (strip 0 []) (deep_in r.heading.depth n r.strips.now) e.0 (e.1 (strip 0 [])).0 (e.1 (strip 0 [])).1 in
    (e.0, deep, f.1 ∙ ap (strip c.in_ok-place.place) (ap (λ k. numbers_in k c.in_ok-place.bytes.now) (sym deep) ∙ sym c.widen.ensures))
