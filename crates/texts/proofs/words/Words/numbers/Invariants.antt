use Rattle.std.specs.List.{AllZip}
use Rattle.texts.specs.Words.{IsNumber}
use Rattle.texts.proofs.words.Words.numbers.Given as goal

-- the words so far are the numbers
abbrev pub invariant-loop-word : goal.invariant-loop-word
invariant-loop-word l = AllZip (λ w n. IsNumber w.now n) l.yielded l.numbers.items
