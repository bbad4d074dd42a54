use Rattle.std.proofs.Common.{◌≡◌, length, Ok, sym, refl, ap, ◌∙◌}
use Rattle.fields.specs.Numbers.{Below}
use Rattle.fields.specs.Checks.{unless, and_then}
use Rattle.linear.specs.Checks.{nonzero}
use Rattle.linear.specs.Division.{numbers_check}
use Rattle.linear.specs.Operations.{operations}
use Rattle.linear.specs.declared.fault.DivideFault.TheVariants.{Zero}
use Rattle.linear.proofs.Passed.{passed_numbers}
use Rattle.linear.proofs.Searches.{nonzero-none, nonzero-some}
use Rattle.linear.proofs.divide.divide.Goals as goal

pub returns-in_default : goal.returns-in_default
returns-in_default g c =
    let q = (operations g.F.Field c.args.f.now).order in
    let p = c.args.dividend.now in
    let s = c.args.divisor.now in
    let room = length c.args.quotient.now in
    let checked : Ok tt ≡ numbers_check q p s room = c.in_ok-check_division.ensures ∙ ap (λ o. numbers_check o p s room) c.order.ensures in
    record {
      answer = sym (ap (λ b. unless b Zero (Ok tt)) (nonzero-none s c.in_default.ensures)) ∙ ap (λ x. and_then x (unless (nonzero s) Zero (Ok tt))) checked;
      divided = (refl, refl);
    }

pub divide_by_lead-requires : goal.divide_by_lead-requires
divide_by_lead-requires g c =
    let q = (operations g.F.Field c.args.f.now).order in
    let p = c.args.dividend.now in
    let s = c.args.divisor.now in
    let room = length c.args.quotient.now in
    let checked : Ok tt ≡ numbers_check q p s room = c.in_ok-check_division.ensures ∙ ap (λ o. numbers_check o p s room) c.order.ensures in
    let passed : (room ≡ length p) × Below q p × Below q s = passed_numbers q p s room checked in
    record { same = passed.0; numbers = passed.1; leads = record { below = passed.2; highest = c.in-Some.ensures } }

pub returns : goal.returns
returns g c =
    let q = (operations g.F.Field c.args.f.now).order in
    let p = c.args.dividend.now in
    let s = c.args.divisor.now in
    let room = length c.args.quotient.now in
    let checked : Ok tt ≡ numbers_check q p s room = c.in_ok-check_division.ensures ∙ ap (λ o. numbers_check o p s room) c.order.ensures in
    record {
      answer = sym (ap (λ b. unless b Zero (Ok tt)) (nonzero-some s c.in-Some.lead c.in-Some.ensures.1)) ∙ ap (λ x. and_then x (unless (nonzero s) Zero (Ok tt))) checked;
      divided = c.divide_by_lead.ensures;
    }
