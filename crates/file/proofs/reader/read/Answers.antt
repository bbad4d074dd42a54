use Rattle.std.proofs.Common.{◌≡◌, ℕ, ◌+◌, ◌-◌, ◌*◌, ◌%◌, length, take, drop, sym, ap, ◌∙◌, subst, arith}
use Rattle.std.proofs.lemmas.Result.{err_from_is_err_and}
use Rattle.carrier.specs.Checks.{fit_check}
use Rattle.file.specs.Meant.{meaning_in}
use Rattle.file.specs.Reads.{held, Ends}
use Rattle.file.proofs.Forms.{form_of, front-is, must, alone}
use Rattle.file.proofs.reader.read.Goals as goal
use Rattle.file.proofs.reader.read.Goals.{then-back-end-via-then-back-end, then-back-end-via-else-back-end+then-back-width-ne0}

pub returns-then-back-end : goal.returns-then-back-end
returns-then-back-end c =
    let h = c.in-Some.trailer.heading in
    let back = c.from-back.result in
    let file = c.args.file.now in
    let e = c.in-Some.ensures in
    let ends : Ends h back file = subst (λ (k : ℕ). Ends h k file) (sym c.from-back.ensures) e.1 in
    record {
      heading = h;
      back = back;
      ends = ends;
      meaning = meaning_in c.in_ok-code.code;
      code = c.in_ok-code.ensures;
      none = λ h' ss f.
          let m = must h h' back ends.front ss file ends.bytes f in
          elim c.then-back-end.branch [
            | then-back-end-via-then-back-end w ↦ omega (arith, m.1, w.if-back-end.true)
            | then-back-end-via-else-back-end+then-back-width-ne0 w ↦ w.if-back-width-ne0.true (rw w.width.ensures m.2)
          ];
    }

pub returns-in_err-check_fitness : goal.returns-in_err-check_fitness
returns-in_err-check_fitness c =
    let p = err_from_is_err_and c.from_residual-in_err-check_fitness.result c.from_residual-in_err-check_fitness.ensures.1 in
    let h = c.in-Some.trailer.heading in
    let back = c.from-back.result in
    let file = c.args.file.now in
    let e = c.in-Some.ensures in
    let ends : Ends h back file = subst (λ (k : ℕ). Ends h k file) (sym c.from-back.ensures) e.1 in
    let whole : back % (1 + 2 * h.depth) ≡ 0 = rw c.width.ensures at c.if-back-width-ne0.false in
    rw (p.1, p.2)
    record {
      heading = h;
      strips = held h (take ((length file - 8) - ((length file - 8) - back)) (drop ((length file - 8) - back) file));
      form = form_of h back file (λ i. (c.type_inv.file i).fits) e.0 (front-is h back file ends.front ends.bytes) c.if-back-end.false whole;
      meaning = meaning_in c.in_ok-code.code;
      code = c.in_ok-code.ensures;
      unfit = ap (fit_check (meaning_in c.in_ok-code.code)) (sym c.from.ensures) ∙ sym c.check_fitness.ensures ∙ c.in_err-check_fitness.was;
    }

pub returns : goal.returns
returns c =
    let h = c.in-Some.trailer.heading in
    let back = c.from-back.result in
    let file = c.args.file.now in
    let e = c.in-Some.ensures in
    let ends : Ends h back file = subst (λ (k : ℕ). Ends h k file) (sym c.from-back.ensures) e.1 in
    let whole : back % (1 + 2 * h.depth) ≡ 0 = rw c.width.ensures at c.if-back-width-ne0.false in
    let f = form_of h back file (λ i. (c.type_inv.file i).fits) e.0 (front-is h back file ends.front ends.bytes) c.if-back-end.false whole in
    record {
      meaning = meaning_in c.in_ok-code.code;
      holds = record {
        code = c.in_ok-code.ensures;
        fit = ap (fit_check (meaning_in c.in_ok-code.code)) (sym c.from.ensures) ∙ sym c.check_fitness.ensures ∙ c.in_ok-check_fitness.was;
        form = f;
      };
      alone = λ h' ss' f'. alone h h' (held h (take ((length file - 8) - ((length file - 8) - back)) (drop ((length file - 8) - back) file))) ss' file f f';
    }
