-- At most one message is within reach.
use Rattle.std.proofs.Common.{◌≡◌, ℕ, ◌+◌, ◌≤◌, cond, eqb, ◌≢◌, List, [], ◌∷◌, length, sym, ◌∙◌, arith}
use Rattle.std.proofs.lemmas.Bool.Decides.{nat_tests}
use Rattle.fields.specs.Numbers.{differ}
use Rattle.codes.specs.Meaning.{Meaning, Reached, Sound}
use Rattle.codes.specs.Words.{missing, wrong}

one_place : (r m v w : ℕ) → cond (eqb v w) 0 1 ≤ (cond (eqb m 0) (cond (eqb r v) 0 1) 0 + cond (eqb m 0) (cond (eqb r w) 0 1) 0) + cond (eqb m 0) 0 1
one_place r m v w = grind (arith, nat_tests)

-- two words differ at most where one of them is wrong, or the place is missing
pub differ-wrong : (rs ms vs ws : List ℕ) → length rs ≡ length ms → length vs ≡ length rs → differ vs ws ≤ wrong rs ms vs + wrong rs ms ws + missing ms
differ-wrong rs ms [] ws a b = omega arith
differ-wrong rs ms (v ∷ vs) [] a b = omega arith
differ-wrong [] ms (v ∷ vs) (w ∷ ws) a b = omega arith
differ-wrong (r ∷ rs) [] (v ∷ vs) (w ∷ ws) a b = omega arith
differ-wrong (r ∷ rs) (m ∷ ms) (v ∷ vs) (w ∷ ws) a b =
    let p = one_place r m v w in
    let i = differ-wrong rs ms vs ws (omega arith) (omega arith) in
    omega arith

-- two different messages are never both within reach
pub one-reached : {M : Meaning} (rs ms m m' : List ℕ) → Sound M → length rs ≡ M.long → length ms ≡ M.long
    → Reached M rs ms m → Reached M rs ms m' → m ≢ m' → ⊥
one-reached {M} rs ms m m' s a b h h' ne =
    let far = s.apart m m' h.message h'.message ne in
    let long = s.word_long m h.message in
    let close = differ-wrong rs ms (M.word m) (M.word m') (a ∙ sym b) (long ∙ sym a) in
    let low = s.distance_low in
    let near = h.near in
    let near' = h'.near in
    omega arith
