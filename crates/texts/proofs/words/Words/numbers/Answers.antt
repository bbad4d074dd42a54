use Rattle.std.proofs.Common.{◌≡◌, ℕ, ◌^◌, ◌<◌, List, [], ◌∷◌, ◌++◌, sym, subst}
use Rattle.std.proofs.lemmas.Result.{err_from_is_err_and}
use Rattle.std.specs.Borrow.{Bor}
use Rattle.std.specs.Iterator.{Yields}
use Rattle.std.specs.List.{AllZip}
use Rattle.std.specs.Str.Iter.{split_whitespace_steps}
use Rattle.texts.specs.Words.{IsNumber}
use Rattle.texts.proofs.words.Words.numbers.Goals as goal

-- one word more, which is one number more
numbers_push : (ws : List (Bor (List ℕ))) (ns : List ℕ) (w : Bor (List ℕ)) (n : ℕ) → AllZip (λ v m. IsNumber v.now m) ws ns → IsNumber w.now n → AllZip (λ v m. IsNumber v.now m) (ws ++ w ∷ []) (ns ++ n ∷ [])
numbers_push [] [] w n h e = (e, tt)
numbers_push [] (m ∷ ns) w n h e = elim h [ ]
numbers_push (v ∷ ws) [] w n h e = elim h [ ]
numbers_push (v ∷ ws) (m ∷ ns) w n h e = (h.0, numbers_push ws ns w n h.1 e)

pub returns-in_err-parse-clause-refused : goal.returns-in_err-parse-clause-refused
returns-in_err-parse-clause-refused c =
    let p = err_from_is_err_and c.from_residual.result c.from_residual.ensures.1 in
    let start : c.into_iter-word-iterator.result ≡ c.args.self.left = c.into_iter-word-iterator.ensures.into_iter_gives in
    let taken = subst (λ s. Yields split_whitespace_steps s c.loop-word.yielded c.loop-word.word-iterator) start c.loop-word.yielded_by in
    let no = c.in_err-parse.ensures.value.0 in
    rw p.1 (λ _. (c.loop-word.yielded, c.in-Some.word, c.loop-word.word-iterator, c.next.new.self, taken, c.in-Some.ensures.steps, λ n is. no (is.0, subst (λ k. k < 2 ^ 16) (sym is.1) is.2)))

pub loop-word-preserved : goal.loop-word-preserved
loop-word-preserved c =
    let read = c.in_ok-parse.ensures.value.0 in
    subst (AllZip (λ v m. IsNumber v.now m) (c.loop-word.yielded ++ c.in-Some.word ∷ [])) (sym c.in_ok-push.ensures.items)
    (numbers_push c.loop-word.yielded c.loop-word.numbers.items c.in-Some.word c.in_ok-parse.field-0 c.loop-word.invariant (read.0.0, sym read.1, subst (λ k. k < 2 ^ 16) (sym read.1) read.0.1))
