use Rattle.std.proofs.Common.{◌≡◌, ◌+◌, ◌≤◌, drop}
use Rattle.linear.specs.Operations.{operations}
use Rattle.linear.specs.Polynomials.{word}
use Rattle.codes.specs.Words.{wrong}
use Rattle.evaluation.proofs.decode.count_wrong.Given as goal

abbrev pub invariant-loop-j : goal.invariant-loop-j
invariant-loop-j g l =
    let ws = word (operations g.F.Field l.f) l.received.points.now l.message in
    (l.wrong ≤ l.j) × (l.wrong + wrong (drop l.j l.received.numbers.now) (drop l.j l.received.marks.now) (drop l.j ws) ≡ wrong l.received.numbers.now l.received.marks.now ws)
