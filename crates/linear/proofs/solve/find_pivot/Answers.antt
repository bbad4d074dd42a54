use Rattle.std.proofs.Common.{◌≡◌, ℕ, ◌+◌, ◌*◌, ◌≢◌, get_or, rules}
use Rattle.std.proofs.lemmas.Iterator.{first_from_Range}
use borrow.Author.Tests.{tests}
use Rattle.linear.specs.Equations.{height}
use Rattle.linear.proofs.Grid.{pivot_from}
use Rattle.linear.proofs.solve.find_pivot.Goals as goal

pub returns : goal.returns
returns c =
    let at : ℕ → ℕ = λ k. get_or c.args.rows.now (k * c.args.w + c.args.c) 0 in
    pivot_from c.args.w c.args.c (height c.args.w c.args.rows.now) c.args.rows.now c.find.result
    (first_from_Range _ _ _ _ (λ k. at k ≢ 0) (λ k. at k ≡ 0) c.find.ensures.ran (λ x q k. search (rules, tests)) (λ x q k. search (rules, tests)))
