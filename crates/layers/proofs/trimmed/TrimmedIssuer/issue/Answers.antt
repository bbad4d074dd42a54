use Rattle.std.proofs.Common.{◌≡◌, ◌-◌, ◌++◌, length, take, replicate, Ok, sym, ◌∙◌, arith}
use Rattle.codes.specs.Meaning.{issue_check}
use Rattle.layers.specs.Trimmed.{trimmed}
use Rattle.layers.proofs.Trim.{issue_below}
use Rattle.layers.proofs.trimmed.TrimmedIssuer.issue.Goals as goal

pub returns : goal.returns
returns g c =
    let t = c.args.self.now in
    let M = g.C.Issuer.meaning t.code in
    let m = c.args.message.now in
    let room = length c.args.word.now in
    let ok : issue_check (trimmed t.by M) m room ≡ Ok tt = sym c.in_ok-check_issue.ensures in
    let b = issue_below t.by M (g.met.C.Issuer.sound t.code) m room ok in
    let inner : c.dimension-inner.result - 0 ≡ M.dimension = omega (arith, c.dimension-inner.ensures) in
    let part : take (c.dimension-inner.result - 0) c.gather-whole.result ≡ m ++ replicate t.by 0 = rw (inner, c.gather-whole.ensures) b.1 in
    let answer : c.issue.result ≡ Ok tt = rw (part, b.0) at c.issue.ensures.answer in
    record { answer = answer ∙ sym ok; buffer = rw part at c.issue.ensures.buffer }
