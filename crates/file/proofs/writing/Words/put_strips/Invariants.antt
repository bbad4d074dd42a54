use Rattle.std.proofs.Common.{◌≡◌, ◌+◌, ◌*◌, get_or, take}
use Rattle.file.specs.Form.{strips_bytes}
use Rattle.file.specs.Writes.{strips_by}
use Rattle.file.proofs.writing.Words.put_strips.Given as goal

abbrev pub invariant-loop-place : goal.invariant-loop-place
invariant-loop-place l = take (l.place * (1 + 2 * l.self.depth)) l.output ≡ strips_bytes (strips_by (λ r j. get_or l.self.numbers.now (r * l.self.long + j) 0) l.self.depth l.place)
