use Rattle.std.proofs.Common.{◌≡◌, ℕ, ◌+◌, ◌-◌, ◌*◌, ◌≤◌, List, length, get_or, take, drop, ap, ◌∙◌, arith, length-drop, length-take}
use Rattle.carrier.specs.Sheets.{row}
use Rattle.carrier.proofs.Books.{all_numbers}
use Rattle.carrier.proofs.Records.{fits}
use Rattle.file.specs.Writes.{entry_by}
use Rattle.file.proofs.Putting.{within, rows_more, issued, part_numbers}
use Rattle.file.proofs.writing.issue_rows.Goals as goal

pub loop-row-preserved : goal.loop-row-preserved
loop-row-preserved g c =
    let code = c.args.code.now in
    let M = g.C.Issuer.meaning code in
    let n = M.long in
    let k = M.dimension in
    let m = c.length-n.result in
    let l = c.dimension-k.result in
    let at = c.loop-row.row in
    let sheet = c.args.sheet.now in
    let words = c.loop-row.words in
    let kept = c.loop-row.auto.words in
    let fit = (fits M.fitness c.args.depth c.requires.fits).code in
    let w = within at c.args.depth n c.loop-row-test.true in
    let v = within at c.args.depth k c.loop-row-test.true in
    let room : at * n + n ≤ length words = omega (arith, c.requires.words) in
    let part = take ((at * l + l) - at * l) (drop (at * l) sheet) in
    let old = take ((at * m + m) - at * m) (drop (at * m) words) in
    let el = c.dimension-k.ensures in
    let em = c.length-n.ensures in
    let sum-l : (at * l + l) - at * l ≡ l = omega arith in
    let part-is : part ≡ row k at sheet = ap (λ x. take x (drop (at * l) sheet)) sum-l ∙ ap (λ x. take x (drop (at * x) sheet)) el in
    let part-long : length (row k at sheet) ≡ k = simp (length-take, length-drop) (omega (arith, c.requires.sheet)) in
    let sum-m : (at * m + m) - at * m ≡ m = omega arith in
    let old-is : old ≡ take n (drop (at * n) words) = ap (λ x. take x (drop (at * m) words)) sum-m ∙ ap (λ x. take x (drop (at * x) words)) em in
    let old-long : length old ≡ n = ap length old-is ∙ (let z : length (take n (drop (at * n) words)) ≡ n = simp (length-take, length-drop) (omega arith) in z) in
    let below = part_numbers M.order (at * l) ((at * l + l) - at * l) sheet c.requires.below in
    let new : c.issue.new.word ≡ M.word part = issued M part old c.issue.new.word c.issue.result fit (ap length part-is ∙ part-long) old-long below c.issue.ensures.answer c.issue.ensures.buffer in
    let new_is : c.issue.new.word ≡ M.word (row k at sheet) = new ∙ ap M.word part-is in
    let law = g.met.C.Issuer.sound code fit in
    let long : length c.issue.new.word ≡ n = ap length new ∙ law.word_long part (record { long = ap length part-is ∙ part-long; below = all_numbers M.order 0 part below }) in
    rows_more words c.issue.new.word at n m ((at * m + m) - at * m) (entry_by M sheet) em room long c.loop-row.invariant (λ j h. ap (λ (x : List ℕ). get_or x j 0) new_is)
