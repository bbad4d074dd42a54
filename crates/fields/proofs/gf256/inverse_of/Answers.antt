use Rattle.std.proofs.Common.{◌≡◌, ◌+◌, ◌-◌, sym, ap, ◌∙◌, ap₂, arith}
use Rattle.fields.specs.Binary.{product}
use Rattle.fields.specs.Bytes.{powered, powered-none, powered-step, power-is}
use Rattle.fields.proofs.gf256.inverse_of.Goals as goal

pub loop-preserved : goal.loop-preserved
loop-preserved c =
    let s = c.loop.square in
    let p = c.loop.powers in
    let square = c.multiply_bytes-square.ensures in
    let powers = c.multiply_bytes-powers.ensures ∙ ap (product p) square in
    let next : 7 - (c.loop.counter + 1) ≡ 7 - c.loop.counter - 1 = omega arith in
    ap₂ (powered (7 - (c.loop.counter + 1))) square powers
    ∙ ap (λ n. powered n (product s s) (product p (product s s))) next ∙ powered-step (7 - c.loop.counter) s p (omega arith) ∙ c.loop.invariant

pub returns : goal.returns
returns c =
    let s = c.loop.square in
    let p = c.loop.powers in
    let none : 7 - c.loop.counter ≡ 0 = omega arith in
    sym (powered-none s p) ∙ sym (ap (λ n. powered n s p) none) ∙ c.loop.invariant ∙ power-is c.args.a c.ranges.a.fits c.requires
