use Rattle.std.proofs.Common.{◌≡◌, ℕ, ◌+◌, ◌-◌, ◌*◌, List, length, take, drop, sym, ap, ◌∙◌, subst, arith}
use Rattle.std.proofs.lemmas.List.{drop_at, length-take-le}
use Rattle.fields.specs.Numbers.{Below, Distinct}
use Rattle.codes.specs.Meaning.{decode_check, Solved}
use Rattle.codes.proofs.Lists.{front-filled}
use Rattle.codes.proofs.Passed.{passed, decided_from}
use Rattle.evaluation.specs.Evaluation.{evaluation}
use Rattle.evaluation.specs.Checked.{fit-proper}
use Rattle.evaluation.specs.Counted.{unmarked_present}
use Rattle.evaluation.proofs.evaluation.EvaluationCode.decode.Goals as goal

pub invariant_of-received : goal.invariant_of-received
invariant_of-received g c =
    let s = c.args.self.now in
    let F = g.F.Field.arithmetic s.field in
    let n = s.length in
    let ps = g.P.Numbers.listed s.points in
    let rs = c.args.received.now in
    let p = passed (evaluation F n s.dimension ps) ((n + 1) * (n + 3)) rs c.args.marks.now (length c.args.message.now) (length c.args.scratch.now) (sym c.in_ok-check_decode.ensures) in
    let proper = fit-proper F.order n s.dimension ps p.fits in
    let whole : length rs - 0 ≡ n = omega (arith, p.received) in
    let is : take (length rs - 0) c.gather-points.result ≡ ps =
    ap (λ (i : ℕ). take i c.gather-points.result) whole ∙ ap (take n) c.gather-points.ensures ∙ front-filled 128 n ps proper.counted proper.few in
    record { points_long = ap length is ∙ proper.counted ∙ sym p.marks; numbers_long = p.received ∙ sym p.marks }

pub decode_in-requires : goal.decode_in-requires
decode_in-requires g c =
    let s = c.args.self.now in
    let F = g.F.Field.arithmetic s.field in
    let n = s.length in
    let ps = g.P.Numbers.listed s.points in
    let M = evaluation F n s.dimension ps in
    let room = (n + 1) * (n + 3) in
    let rs = c.args.received.now in
    let ms = c.args.marks.now in
    let p = passed M room rs ms (length c.args.message.now) (length c.args.scratch.now) (sym c.in_ok-check_decode.ensures) in
    let proper = fit-proper F.order n s.dimension ps p.fits in
    let front = take (length rs - 0) c.gather-points.result in
    let whole : length rs - 0 ≡ n = omega (arith, p.received) in
    let is : front ≡ ps = ap (λ (i : ℕ). take i c.gather-points.result) whole ∙ ap (take n) c.gather-points.ensures ∙ front-filled 128 n ps proper.counted proper.few in
    let long : length front ≡ n = ap length is ∙ proper.counted in
    let goal = c.need-need.ensures in
    let lent : length (take (c.need-need.result - 0) c.args.scratch.now) ≡ c.need-need.result - 0 = length-take-le (c.need-need.result - 0) c.args.scratch.now (omega (arith, goal, p.scratch)) in
    record {
      given = record {
        few = omega (arith, long, proper.few);
        points_long = long ∙ sym p.marks;
        received_long = p.received ∙ sym p.marks;
        distinct = subst Distinct (sym is) proper.distinct;
        below = subst (Below F.order) (sym is) proper.below;
        numbers = unmarked_present F.order 0 rs ms p.numbers;
      };
      dimension = omega (arith, p.message, proper.low);
      fits = omega (arith, long, p.message, proper.high);
      room = ap (λ (i : ℕ). (i + 1) * (i + 3)) long ∙ omega (arith, goal, lent);
    }

pub returns : goal.returns
returns g c =
    let s = c.args.self.now in
    let F = g.F.Field.arithmetic s.field in
    let n = s.length in
    let k = s.dimension in
    let ps = g.P.Numbers.listed s.points in
    let M = evaluation F n k ps in
    let room = (n + 1) * (n + 3) in
    let rs = c.args.received.now in
    let ms = c.args.marks.now in
    let old = c.args.message.now in
    let new = c.decode_in.new.message in
    let scratch = c.args.scratch.now in
    let r = c.decode_in.result in
    let ok = sym c.in_ok-check_decode.ensures in
    let p = passed M room rs ms (length old) (length scratch) ok in
    let proper = fit-proper F.order n k ps p.fits in
    let front = take (length rs - 0) c.gather-points.result in
    let whole : length rs - 0 ≡ n = omega (arith, p.received) in
    let is : front ≡ ps = ap (λ (i : ℕ). take i c.gather-points.result) whole ∙ ap (take n) c.gather-points.ensures ∙ front-filled 128 n ps proper.counted proper.few in
    let S : ℕ → ℕ → List ℕ → Type 0 = λ a b xs. Solved (evaluation F a b xs) rs ms old new r in
    let s₁ : S (length ps) (length old) ps = subst (λ (xs : List ℕ). S (length xs) (length old) xs) is c.decode_in.ensures in
    let s₂ : S n (length old) ps = subst (λ (a : ℕ). S a (length old) ps) proper.counted s₁ in
    let s₃ : S n k ps = subst (λ (b : ℕ). S n b ps) p.message s₂ in
    let goal = c.need-need.ensures in
    let lent : length (take (c.need-need.result - 0) scratch) ≡ c.need-need.result - 0 = length-take-le (c.need-need.result - 0) scratch (omega (arith, goal, p.scratch)) in
    let used : length c.decode_in.new.room ≡ room = omega (arith, c.decode_in.auto.room, lent, goal) in
    let width : c.need-need.result - 0 ≡ room = omega (arith, goal) in
    decided_from (decode_check M room rs ms (length old) (length scratch)) M room rs ms old new scratch _ r ok s₃
    (drop_at c.decode_in.new.room (drop (c.need-need.result - 0) scratch) room used ∙ ap (λ (i : ℕ). drop i scratch) width)
