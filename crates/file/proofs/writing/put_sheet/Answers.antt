use Rattle.std.proofs.Common.{◌+◌, ◌*◌, get_or, ap, ◌∙◌}
use Rattle.file.specs.Form.{strips_bytes}
use Rattle.file.specs.Writes.{strips_by, entry_by}
use Rattle.file.proofs.Putting.{strips-same}
use Rattle.file.proofs.writing.put_sheet.Goals as goal

pub returns : goal.returns
returns g c =
    let M = g.C.Issuer.meaning c.args.code.now in
    let n = M.long in
    let words = c.issue_rows.new.words in
    c.put_strips.ensures
    ∙ ap (λ m. strips_bytes (strips_by (λ r j. get_or words (r * m + j) 0) c.args.depth m)) c.length-n.ensures
    ∙ ap strips_bytes (strips-same (λ r j. get_or words (r * n + j) 0) (entry_by M c.args.sheet.now) c.args.depth n c.issue_rows.ensures)
