use Rattle.std.proofs.Common.{◌≡◌, ℕ, List, length, replicate, refl}
use lib.ListN.{length-replicate}
use Rattle.settings_carrier.specs.Reports.{headed}
use Rattle.settings_carrier.proofs.Rooms.{enough}
use Rattle.settings_carrier.proofs.decoding.carrier_decode.Goals as goal

pub returns : goal.returns
returns c =
    let h = headed c.args.kind c.args.modulus c.args.n c.args.k 1 in
    let scratch : List ℕ = replicate 16899 0 in
    let full : length scratch ≡ 16899 = length-replicate {A = ℕ} 16899 0 in
    record {
      scratch = scratch;
      scratch' = c.decode_by-outcome.new.scratch;
      enough = enough h (length scratch) refl full;
      outcome = c.decode_by-outcome.result;
      decoded = c.decode_by-outcome.ensures;
      told = c.tell.ensures;
    }
