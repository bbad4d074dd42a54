use Rattle.std.proofs.Common.{◌≡◌, length, take}
use Rattle.carrier.specs.Sheets.{received, marks}
use Rattle.carrier.proofs.table.Table.column.Given as goal

abbrev pub invariant-loop-place : goal.invariant-loop-place
invariant-loop-place l =
    (length l.numbers ≡ 128)
    × (length l.missing ≡ 128)
    × (take l.place l.numbers ≡ received l.row (take l.place l.strip-items))
    × (take l.place l.missing ≡ marks (take l.place l.strip-items))
