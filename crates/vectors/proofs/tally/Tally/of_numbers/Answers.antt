use Rattle.std.proofs.Common.{◌≡◌, sym, ◌∙◌, arith}
use Rattle.fields.specs.Numbers.{differ}
use Rattle.vectors.proofs.Differing.{differ-none, differ_as_count}
use Rattle.vectors.proofs.tally.Tally.of_numbers.Goals as goal

pub returns : goal.returns
returns c =
    let xs = c.args.expected.now in
    let ys = c.args.got.now in
    let count : c.count_differing.result ≡ differ xs ys = c.count_differing.ensures.value ∙ sym (differ_as_count xs ys) in
    record {
      compared = c.max-compared.ensures;
      differing = omega arith;
      equal = λ e. differ-none xs ys (omega arith) (omega arith);
    }
