use Rattle.std.proofs.Common.{sym, ◌∙◌}
use Rattle.codes.proofs.Steps.{found_check}
use Rattle.codes.proofs.checks.check_numbers.Goals as goal

pub returns-in-Some : goal.returns-in-Some
returns-in-Some c = found_check c.args.order c.args.numbers.now _ (sym c.in-Some.is ∙ c.find_stray.ensures)

pub returns-in-None : goal.returns-in-None
returns-in-None c = found_check c.args.order c.args.numbers.now _ (sym c.in-None.is ∙ c.find_stray.ensures)
