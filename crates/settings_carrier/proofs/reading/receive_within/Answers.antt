use Rattle.std.proofs.Common.{◌≤◌, ap, arith}
use Rattle.std.proofs.lemmas.Result.{err_from_is_err_and}
use Rattle.file.specs.Reads.{strips_of}
use Rattle.settings_carrier.specs.Readings.{size}
use Rattle.settings_carrier.proofs.Rooms.{fills, declines, roomy}
use Rattle.settings_carrier.proofs.reading.receive_within.Goals as goal
use Rattle.settings_carrier.proofs.reading.receive_within.Goals.{then-file-le-LONGEST+in_ok-read+else-room-size, else-file-le-LONGEST}

pub returns-in_err-read : goal.returns-in_err-read
returns-in_err-read c =
    let p = err_from_is_err_and c.from_residual.result c.from_residual.ensures.1 in
    rw (p.1, p.2) (declines c.args.file.now c.args.room c.in_err-read.field-0.0 c.if-file-le-LONGEST.true c.in_err-read.ensures)

pub returns : goal.returns
returns c =
    let file = c.args.file.now in
    let room = c.args.room in
    fills file room c.receive.result
    (elim c.if-file-le-LONGEST.branch [
      | then-file-le-LONGEST+in_ok-read+else-room-size w ↦
          let R = w.in_ok-read.field-0 in
          let fits : size R.heading ≤ room = omega (arith, ap size w.heading-heading.ensures, w.size.ensures, w.if-room-size.false) in
          roomy file room R.heading (strips_of R) w.in_ok-read.ensures fits
      | else-file-le-LONGEST w ↦ λ h ss short taken. absurd (omega (arith, w.if-file-le-LONGEST.false))
    ])
    c.receive.ensures
