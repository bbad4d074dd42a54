use Rattle.std.proofs.Common.{◌≡◌, ◌+◌, ◌*◌, ◌∷◌, map, get_or, take}
use Rattle.std.specs.List.{range_with_len, flat_map}
use Rattle.file.specs.Form.{two}
use Rattle.file.proofs.writing.Words.put_strip.Given as goal

abbrev pub invariant-loop-row : goal.invariant-loop-row
invariant-loop-row l = take (1 + 2 * l.row) l.output ≡ l.place ∷ flat_map two (map (λ r. get_or l.self.numbers.now (r * l.self.long + l.place) 0) (range_with_len 0 l.row))
