use Rattle.std.proofs.Common.{◌≡◌, ℕ, ◌-◌, List, length, take, sym, ap, ◌∙◌, arith}
use Rattle.fields.specs.Arithmetic.{total}
use Rattle.linear.specs.Polynomials.{word}
use Rattle.codes.proofs.Lists.{front-filled}
use Rattle.codes.proofs.Passed.{issuable}
use Rattle.evaluation.specs.Evaluation.{evaluation}
use Rattle.evaluation.specs.Checked.{fit-proper}
use Rattle.evaluation.proofs.evaluation.EvaluationIssuer.issue.Goals as goal

pub returns : goal.returns
returns g c =
    let s = c.args.self.now in
    let F = g.F.Field.arithmetic s.field in
    let n = s.length in
    let ps = g.P.Numbers.listed s.points in
    let M = evaluation F n s.dimension ps in
    let room = length c.args.word.now in
    let ok = c.in_ok-check_issue.ensures in
    let p = issuable M c.args.message.now room (sym ok) in
    let proper = fit-proper F.order n s.dimension ps p.fits in
    let whole : room - 0 ≡ n = omega (arith, p.word) in
    let is : take (room - 0) c.gather-points.result ≡ ps =
    ap (λ (i : ℕ). take i c.gather-points.result) whole ∙ ap (take n) c.gather-points.ensures ∙ front-filled 128 n ps proper.counted proper.few in
    record {
      answer = ok;
      buffer = c.evaluate_all.ensures ∙ ap (λ (xs : List ℕ). word (total F) xs c.args.message.now) (c.copy_from_slice.ensures.after ∙ is);
    }
