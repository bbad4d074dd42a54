use Rattle.std.proofs.Common.{◌≡◌, ◌-◌, ◌/◌, ◌%◌, ◌≤◌, length, get_or, take, arith, rules}
use Rattle.file.proofs.Forms.{last_eight}
use Rattle.file.proofs.reader.trailer_of.Goals as goal

pub returns : goal.returns
returns c =
    let file = c.args.file.now in
    let n = length file in
    let eight : 8 ≤ n = search rules in
    let e = last_eight file eight in
    let m = c.from_be_bytes.result in
    let b = c.from_be_bytes-back.result in
    let m-high : m / 256 ≡ get_or file (n - 7) 0 = omega (arith, c.from_be_bytes.ensures, (c.type_inv.file (n - 6)).fits) in
    let m-low : m % 256 ≡ get_or file (n - 6) 0 = omega (arith, c.from_be_bytes.ensures, (c.type_inv.file (n - 6)).fits) in
    let b-high : b / 256 ≡ get_or file (n - 2) 0 = omega (arith, c.from_be_bytes-back.ensures, (c.type_inv.file (n - 1)).fits) in
    let b-low : b % 256 ≡ get_or file (n - 1) 0 = omega (arith, c.from_be_bytes-back.ensures, (c.type_inv.file (n - 1)).fits) in
    (eight, record { front = take (n - 8) file; bytes = cc })
