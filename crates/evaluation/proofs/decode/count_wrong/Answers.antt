use Rattle.std.proofs.Common.{◌≡◌, ℕ, ◌≤◌, cond, eqb, length, get_or, drop, sym, ap, ◌∙◌, arith}
use lib.ListN.{length-map}
use Rattle.std.proofs.lemmas.List.{drop_all, get_or-map}
use Rattle.std.proofs.lemmas.Bool.Decides.{nat_tests}
use Rattle.linear.specs.Operations.{operations}
use Rattle.linear.specs.Polynomials.{value, word}
use Rattle.codes.specs.Words.{wrong}
use Rattle.codes.proofs.Steps.{wrong-more}
use Rattle.evaluation.proofs.decode.count_wrong.Goals as goal
use Rattle.evaluation.proofs.decode.count_wrong.Goals.{then-mark-eq0+then-received-j, else-mark-eq0, else-mark-eq0-via-then-mark-eq0+else-received-j, else-mark-eq0-via-else-mark-eq0}

unlike : (m r v : ℕ) → m ≡ 0 → (r ≡ v → ⊥) → cond {A = ℕ} (eqb m 0) (cond (eqb r v) 0 1) 0 ≡ 1
unlike m r v e n = grind (arith, nat_tests)

alike : (m r v : ℕ) → r ≡ v → cond {A = ℕ} (eqb m 0) (cond (eqb r v) 0 1) 0 ≡ 0
alike m r v e = grind (arith, nat_tests)

marked : (m r v : ℕ) → (m ≡ 0 → ⊥) → cond {A = ℕ} (eqb m 0) (cond (eqb r v) 0 1) 0 ≡ 0
marked m r v n = grind (arith, nat_tests)

pub loop-j-preserved : goal.loop-j-preserved
loop-j-preserved g c =
    let F = operations g.F.Field c.args.f.now in
    let j = c.loop-j.j in
    let ps = c.args.received.now.points.now in
    let rs = c.args.received.now.numbers.now in
    let ms = c.args.received.now.marks.now in
    let u = c.args.message.now in
    let ws = word F ps u in
    let inv = c.loop-j.invariant in
    let long : length ws ≡ length ps = length-map ps (value F u) in
    let step = wrong-more rs ms ws j (omega arith) c.loop-j-test.true (omega arith) in
    let at : get_or ws j 0 ≡ value F u (get_or ps j 0) = get_or-map (value F u) ps j 0 0 (omega arith) in
    let m = get_or ms j 0 in
    let r = get_or rs j 0 in
    let v = get_or ws j 0 in
    elim c.if-mark-eq0.branch [
      | then-mark-eq0+then-received-j w ↦
          let other = unlike m r v w.if-mark-eq0.true (λ e. w.if-received-j.true (e ∙ at ∙ sym w.evaluate.ensures)) in
          (omega (arith, w.wrong-is, inv.0), omega (arith, w.wrong-is, inv.1))
      | else-mark-eq0 w ↦
          let none : cond {A = ℕ} (eqb m 0) (cond (eqb r v) 0 1) 0 ≡ 0 = elim w.else-mark-eq0.branch [
            | else-mark-eq0-via-then-mark-eq0+else-received-j w' ↦ alike m r v (w'.if-received-j.false ∙ w'.evaluate.ensures ∙ sym at)
            | else-mark-eq0-via-else-mark-eq0 w' ↦ marked m r v w'.if-mark-eq0.false
          ] in
          (omega (arith, w.wrong-is, inv.0), omega (arith, w.wrong-is, inv.1))
    ]

none_left : (rs ms ws : _) (j : ℕ) → length ms ≤ j → length rs ≡ length ms → wrong (drop j rs) (drop j ms) (drop j ws) ≡ 0
none_left rs ms ws j h e = let a = drop_all j rs (omega arith) in ap (λ x. wrong x (drop j ms) (drop j ws)) a
