-- Rows of numbers: places of a multiple added, and a row inside a longer list.
use Rattle.std.proofs.Common.{◌≡◌, ℕ, zero, suc, ◌<◌, List, [], ◌∷◌, length, get_or, refl, ap, arith}
use Rattle.std.specs.List.{push}
use Rattle.fields.specs.Arithmetic.{Arithmetic}
use Rattle.linear.specs.Equations.{dot}
use Rattle.linear.specs.Polynomials.{value, added, scaled}

-- a multiple of p added to t, place by place
pub get_or-added : (F : Arithmetic) (b : ℕ) (t p : List ℕ) (k : ℕ) → length p ≡ length t → k < length t → get_or (added F t (scaled F b p)) k 0 ≡ F.plus (get_or t k 0) (F.times b (get_or p k 0))
get_or-added F b [] p k e h = absurd (omega arith)
get_or-added F b (a ∷ t) [] k e h = absurd (omega arith)
get_or-added F b (a ∷ t) (x ∷ p) zero e h = refl
get_or-added F b (a ∷ t) (x ∷ p) (suc k) e h = get_or-added F b t p k (omega arith) (omega arith)

pub length-added : (F : Arithmetic) (b : ℕ) (t p : List ℕ) → length p ≡ length t → length (added F t (scaled F b p)) ≡ length t
length-added F b [] [] e = refl
length-added F b [] (x ∷ p) e = absurd (omega arith)
length-added F b (a ∷ t) [] e = refl
length-added F b (a ∷ t) (x ∷ p) e = ap suc (length-added F b t p (omega arith))

-- Horner's rule over the coefficients p, from the value s of those after them
abbrev pub value-onto : Arithmetic → List ℕ → ℕ → ℕ → ℕ
value-onto F [] x s = s
value-onto F (a ∷ p) x s = F.plus a (F.times x (value-onto F p x s))

pub value-onto_zero : (F : Arithmetic) (p : List ℕ) (x : ℕ) → value F p x ≡ value-onto F p x 0
value-onto_zero F [] x = refl
value-onto_zero F (a ∷ p) x = ap (λ w. F.plus a (F.times x w)) (value-onto_zero F p x)

pub value-onto_push : (F : Arithmetic) (p : List ℕ) (a x s : ℕ) → value-onto F (push p a) x s ≡ value-onto F p x (F.plus a (F.times x s))
value-onto_push F [] a x s = refl
value-onto_push F (b ∷ p) a x s = ap (λ w. F.plus b (F.times x w)) (value-onto_push F p a x s)

-- the sum of the products of the rows a and b, and of s
abbrev pub dot-onto : Arithmetic → List ℕ → List ℕ → ℕ → ℕ
dot-onto F [] b s = s
dot-onto F (x ∷ a) [] s = s
dot-onto F (x ∷ a) (y ∷ b) s = F.plus (F.times x y) (dot-onto F a b s)

pub dot-onto_zero : (F : Arithmetic) (a b : List ℕ) → dot F a b ≡ dot-onto F a b 0
dot-onto_zero F [] b = refl
dot-onto_zero F (x ∷ a) [] = refl
dot-onto_zero F (x ∷ a) (y ∷ b) = ap (F.plus (F.times x y)) (dot-onto_zero F a b)

pub dot-onto_push : (F : Arithmetic) (a b : List ℕ) (x y s : ℕ) → length a ≡ length b → dot-onto F (push a x) (push b y) s ≡ dot-onto F a b (F.plus (F.times x y) s)
dot-onto_push F [] [] x y s e = refl
dot-onto_push F [] (v ∷ b) x y s e = absurd (omega arith)
dot-onto_push F (u ∷ a) [] x y s e = absurd (omega arith)
dot-onto_push F (u ∷ a) (v ∷ b) x y s e = ap (F.plus (F.times u v)) (dot-onto_push F a b x y s (omega arith))
