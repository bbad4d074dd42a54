use Rattle.std.proofs.Common.{◌≡◌, ℕ, ◌+◌, ◌*◌, ◌<◌, get_or}
use Rattle.file.specs.Writes.{entry_by}
use Rattle.file.proofs.writing.issue_rows.Given as goal

abbrev pub invariant-loop-row : goal.invariant-loop-row
invariant-loop-row g l =
    let M = g.C.Issuer.meaning l.code in
    (r j : ℕ) → r < l.row → j < M.long → get_or l.words (r * M.long + j) 0 ≡ entry_by M l.sheet r j
