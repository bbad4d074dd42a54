use Rattle.std.proofs.Common.{◌≡◌, ℕ, ◌-◌, ◌<◌, length, map, take, drop, sym, refl, ap, ◌∙◌, subst, arith, length-drop, take_all}
use Rattle.std.proofs.ByRecursion.{All-take}
use Rattle.std.proofs.lemmas.Result.{err_from_is_err_and}
use Rattle.fields.specs.Numbers.{Below, Zeros}
use Rattle.fields.proofs.Total.{TotalLaws}
use Rattle.linear.specs.Division.{Divided}
use Rattle.linear.specs.Operations.{operations}
use Rattle.linear.specs.Polynomials.{scaled}
use Rattle.linear.proofs.Lawful.{lawful}
use Rattle.linear.proofs.Values
use Rattle.codes.specs.Checks.{zero_check}
use Rattle.evaluation.specs.Decoding.{Divides}
use Rattle.evaluation.proofs.Quotient.{opposites, divides_from, divided-by}
use Rattle.evaluation.proofs.Solving.{divide_passes, zeros_passed, zeros_fault}
use Rattle.evaluation.proofs.decode.divide_out.Goals as goal

pub unreachable-requires : goal.unreachable-requires
unreachable-requires g c =
    let F = operations g.F.Field c.args.f.now in
    let ok = divide_passes F.order c.args.q0.now c.args.q1.now (length c.args.quotient.now) c.requires.room c.requires.dividend c.requires.divisor c.requires.nonzero in
    c.in_default.not-Ok tt (c.divide.ensures.answer ∙ ok)

pub returns-in_err-check_zeros : goal.returns-in_err-check_zeros
returns-in_err-check_zeros g c =
    let f = c.args.f.now in
    let F = operations g.F.Field f in
    let L : TotalLaws F = lawful g.F.Field f (g.met.F.Field.sizes f) (g.met.F.Field.sums f) (g.met.F.Field.products f) (g.met.F.Field.inverses f) in
    let d : Divided F c.args.q0.now c.args.q1.now c.divide.new.quotient c.divide.new.dividend = c.in-Ok.ensures.divided in
    let p = err_from_is_err_and c.from_residual.result c.from_residual.ensures.1 in
    let e = zeros_fault c.divide.new.dividend c.in_err-check_zeros.field-0.0 (sym c.in_err-check_zeros.ensures) in
    rw (p.1, p.2) (
      e.0,
      refl,
      λ u lu hu z.
          e.1 (divided-by F L c.args.q0.now c.args.q1.now c.divide.new.quotient c.divide.new.dividend u c.requires.dividend (omega (arith, lu, c.requires.fits)) d z).0,
    )

pub returns-in_err-check_zeros-2 : goal.returns-in_err-check_zeros-2
returns-in_err-check_zeros-2 g c =
    let f = c.args.f.now in
    let F = operations g.F.Field f in
    let L : TotalLaws F = lawful g.F.Field f (g.met.F.Field.sizes f) (g.met.F.Field.sums f) (g.met.F.Field.products f) (g.met.F.Field.inverses f) in
    let d : Divided F c.args.q0.now c.args.q1.now c.divide.new.quotient c.divide.new.dividend = c.in-Ok.ensures.divided in
    let p = err_from_is_err_and c.from_residual-in_err-check_zeros-2.result c.from_residual-in_err-check_zeros-2.ensures.1 in
    let Q = c.divide.new.quotient in
    let k = length c.args.message.now in
    let all : take (length Q - k) (drop k Q) ≡ drop k Q = take_all (length Q - k) (drop k Q) (omega (arith, length-drop k Q)) in
    let e = zeros_fault (drop k Q) c.in_err-check_zeros-2.field-0.0 (sym (c.in_err-check_zeros-2.ensures ∙ ap zero_check all)) in
    rw (p.1, p.2) (
      e.0,
      refl,
      λ u lu hu z.
          e.1 (subst (λ (n : ℕ). Zeros (drop n c.divide.new.quotient)) lu
          (divided-by F L c.args.q0.now c.args.q1.now c.divide.new.quotient c.divide.new.dividend u c.requires.dividend (omega (arith, lu, c.requires.fits)) d z).1),
    )

pub returns : goal.returns
returns g c =
    let f = c.args.f.now in
    let F = operations g.F.Field f in
    let L : TotalLaws F = lawful g.F.Field f (g.met.F.Field.sizes f) (g.met.F.Field.sums f) (g.met.F.Field.products f) (g.met.F.Field.inverses f) in
    let d : Divided F c.args.q0.now c.args.q1.now c.divide.new.quotient c.divide.new.dividend = c.in-Ok.ensures.divided in
    let Q = c.divide.new.quotient in
    let k = length c.args.message.now in
    let zr = zeros_passed c.divide.new.dividend (sym c.in_ok-check_zeros.ensures) in
    let all : take (length Q - k) (drop k Q) ≡ drop k Q = take_all (length Q - k) (drop k Q) (omega (arith, length-drop k Q)) in
    let zq : Zeros (drop k Q) = zeros_passed (drop k Q) (sym (c.in_ok-check_zeros-2.ensures ∙ ap zero_check all)) in
    let width : k - 0 ≡ k = omega arith in
    let is : c.negate_all.new.numbers ≡ scaled F (F.opposite 1) (take k Q) =
    c.negate_all.ensures ∙ ap (map F.opposite) c.copy_from_slice.ensures.after ∙ opposites F L (take (k - 0) Q) (All-take (λ x. x < F.order) (k - 0) Q d.quotient_below) ∙ ap (λ (n : ℕ). scaled F (F.opposite 1) (take n Q)) width in (
      subst (Below F.order) (sym is) (Values.scaled-below F L (F.opposite 1) (take k Q)),
      subst (Divides F c.args.q0.now c.args.q1.now) (sym is) (divides_from F L c.args.q0.now c.args.q1.now Q c.divide.new.dividend k c.requires.dividend d zr zq),
    )
