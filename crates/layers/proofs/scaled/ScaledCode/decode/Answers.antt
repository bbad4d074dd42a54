use Rattle.std.proofs.Common.{◌≡◌, ℕ, ◌-◌, List, length, take, Ok, sym, ap, ◌∙◌, subst, arith}
use Rattle.fields.specs.Arithmetic.{total}
use Rattle.codes.specs.Meaning.{decode_check, Decoded, Sound}
use Rattle.codes.proofs.Passed.{Passed, passed}
use Rattle.layers.specs.Scaled.{scaled, quotients}
use Rattle.layers.proofs.Scale.{decoded-up}
use Rattle.layers.specs.ScaledSound.{lawful, Scaling, scaling, units}
use Rattle.layers.proofs.scaled.ScaledCode.decode.Goals as goal

pub divide_word-word-requires : goal.divide_word-word-requires
divide_word-word-requires g c =
    let s = c.args.self.now in
    let law = g.met.F.Field in
    let F = g.F.Field.arithmetic s.field in
    let L = lawful (law.sizes s.field) (law.sums s.field) (law.products s.field) (law.inverses s.field) in
    let xs = g.M.Numbers.listed s.multipliers in
    let M = g.C.Issuer.meaning s.code in
    let room = g.C.Code.need s.code in
    let rs = c.args.received.now in
    let ms = c.args.marks.now in
    let k = length c.args.message.now in
    let lent = length c.args.scratch.now in
    let ok : decode_check (scaled F xs M) room rs ms k lent ≡ Ok tt = sym c.in_ok-check_decode.ensures in
    let p : Passed (scaled F xs M) room rs ms k lent = passed (scaled F xs M) room rs ms k lent ok in
    let made : Scaling F xs M = scaling F xs M p.fits in
    let sound : Sound M = g.met.C.Issuer.sound s.code made.fits in
    record {
      few = omega (arith, p.marks, sound.length_high);
      multipliers = made.counted ∙ sym p.marks;
      received = p.received ∙ sym p.marks;
      units = units F L xs M sound made;
    }

pub returns : goal.returns
returns g c =
    let s = c.args.self.now in
    let law = g.met.F.Field in
    let F = g.F.Field.arithmetic s.field in
    let L = lawful (law.sizes s.field) (law.sums s.field) (law.products s.field) (law.inverses s.field) in
    let xs = g.M.Numbers.listed s.multipliers in
    let M = g.C.Issuer.meaning s.code in
    let room = g.C.Code.need s.code in
    let rs = c.args.received.now in
    let ms = c.args.marks.now in
    let old = c.args.message.now in
    let scr = c.args.scratch.now in
    let new = c.decode.new.message in
    let scr' = c.decode.new.scratch in
    let r = c.decode.result in
    let ok : decode_check (scaled F xs M) room rs ms (length old) (length scr) ≡ Ok tt = sym c.in_ok-check_decode.ensures in
    let p : Passed (scaled F xs M) room rs ms (length old) (length scr) = passed (scaled F xs M) room rs ms (length old) (length scr) ok in
    let made : Scaling F xs M = scaling F xs M p.fits in
    let sound : Sound M = g.met.C.Issuer.sound s.code made.fits in
    let word = c.divide_word-word.result in
    let width : length ms - 0 ≡ length ms = omega arith in
    let quoted : take (length ms - 0) word ≡ quotients (total F) xs rs ms = ap (λ i. take i word) width ∙ c.divide_word-word.ensures in
    let done : Decoded M room (quotients (total F) xs rs ms) ms old new scr scr' r = subst (λ (t : List ℕ). Decoded M room t ms old new scr scr' r) quoted c.decode.ensures in
    decoded-up F L xs M sound made room rs ms p.received p.marks p.numbers old new scr scr' r p.message p.scratch ok done
