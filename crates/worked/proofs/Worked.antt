-- The worked examples hold: one test, computed over their list.
use Rattle.std.proofs.Common.{Bool, true, ◌&&◌, T, eqb, List, [], ◌∷◌, length, eqb→eq}
use Rattle.std.specs.List.{AllByRecursion}
use Rattle.fields.specs.Computed.{and_left, and_right}
use Rattle.fields.specs.Arithmetic.{total, inverted, partner}
use Rattle.codes.specs.Meaning.{issue_check}
use Rattle.worked.proofs.Decodings.{received, none_near, only_near, refused, decoded}
use Rattle.worked.proofs.Tests.{ok, ok-is, equal, equal_is, equal_option, equal_option-is}
use Rattle.worked.specs.Examples.{Example, multiplies, inverts, issues, decodes, refuses, Holds, examples, ExamplesHold}

-- the test of one example
abbrev passes : Example → Bool
passes (multiplies F a b c) = eqb ((total F).times a b) c
passes (inverts F a r) = equal_option (inverted F a) r
passes (issues M m w) = ok (issue_check M m (length w)) && equal (M.word m) w
passes (decodes M rs ms m e) = received M rs ms && only_near M rs ms m e
passes (refuses M rs ms) = received M rs ms && none_near M rs ms

holds : (x : Example) → T (passes x) → Holds x
holds (multiplies F a b c) h = eqb→eq ((total F).times a b) c h
holds (inverts F a r) h = equal_option-is (inverted F a) r h
holds (issues M m w) h =
    let checks = ok (issue_check M m (length w)) in
    (ok-is (issue_check M m (length w)) (and_left checks _ h), equal_is (M.word m) w (and_right checks _ h))
holds (decodes M rs ms m e) h = decoded M rs ms m e (and_left (received M rs ms) _ h) (and_right (received M rs ms) _ h)
holds (refuses M rs ms) h = refused M rs ms (and_left (received M rs ms) _ h) (and_right (received M rs ms) _ h)

abbrev all_pass : List Example → Bool
all_pass [] = true
all_pass (x ∷ xs) = passes x && all_pass xs

all_hold : (xs : List Example) → T (all_pass xs) → AllByRecursion Holds xs
all_hold [] h = tt
all_hold (x ∷ xs) h = (holds x (and_left (passes x) (all_pass xs) h), all_hold xs (and_right (passes x) (all_pass xs) h))

pub worked : ExamplesHold
unfolding partner
worked = all_hold examples tt
