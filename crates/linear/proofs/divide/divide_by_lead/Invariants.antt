use Rattle.linear.specs.Operations.{operations}
use Rattle.linear.proofs.Division.{Down}
use Rattle.linear.proofs.divide.divide_by_lead.Given as goal

abbrev pub invariant-loop-i : goal.invariant-loop-i
invariant-loop-i g l = Down (operations g.F.Field l.f) l.lead l.initial.dividend l.divisor l.i l.dividend l.quotient
