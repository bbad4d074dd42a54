-- The evaluation code is sound, and decodes what the equations give.
use Rattle.std.specs.Prelude.{◌≡◌, ℕ, ◌+◌, ◌*◌, ◌<◌, ◌≤◌, List, [], ◌∷◌, map, length, Ok, Err, refl}
use Rattle.std.proofs.Common.{sym, ◌∙◌, mul-le-mul, arith}
use Rattle.std.proofs.lemmas.List.{get_or-map, length-map}
use Rattle.std.specs.List.{AllByRecursion}
use Rattle.fields.specs.Arithmetic.{Arithmetic, total}
use Rattle.fields.specs.Laws.{Laws}
use Rattle.fields.specs.Numbers.{differ}
use Rattle.fields.proofs.Total.{total-laws}
use Rattle.linear.specs.Polynomials.{value, word}
use Rattle.linear.proofs.Distance
use Rattle.linear.proofs.Roots
use Rattle.codes.specs.Meaning.{Sound, Solved}
use Rattle.codes.specs.Words.{wrong}
use Rattle.codes.specs.declared.fault.CodeFault.{CodeFault}
use Rattle.codes.specs.declared.fault.CodeFault.TheVariants.{Reach}
use Rattle.evaluation.specs.Decoding.{present, Located}
use Rattle.evaluation.specs.Evaluation.{evaluation, evaluation_fit, Proper, Evaluates}
use Rattle.evaluation.specs.Checked.{fit-proper, proper_fit}
use Rattle.evaluation.specs.Counted.{length-present, same_wrong}

all_of : (P : ℕ → Type 0) (f : ℕ → ℕ) → ((x : ℕ) → P (f x)) → (xs : List ℕ) → AllByRecursion P (map f xs)
all_of P f h [] = tt
all_of P f h (x ∷ xs) = (h x, all_of P f h xs)

pub proper_sound : (F : Arithmetic) → Laws F → (n k : ℕ) (points : List ℕ) → Proper F.order n k points → Sound (evaluation F n k points)
proper_sound F L n k points p = record {
  order_low = L.sizes.low;
  order_high = L.sizes.high;
  length_low = p.some;
  length_high = p.few;
  dimension_low = p.low;
  dimension_high = p.high;
  distance_low = omega arith;
  distance_high = omega (arith, p.low, p.high);
  word_long = λ m h. length-map points (value (total F) m) ∙ p.counted;
  word_below = λ m h. all_of (λ x. x < F.order) (value (total F) m) (Roots.value-below (total F) (total-laws F L) m) points;
  apart = λ m m' h h' ne.
      let far = Distance.words_apart (total F) (total-laws F L) m m' points k h.long h'.long h.below h'.below p.distinct p.below ne in
      omega (arith, p.counted, p.high);
}

pub needs_few : (q n k : ℕ) (points : List ℕ) → evaluation_fit q n k points ≡ Ok tt → (n + 1) * (n + 3) ≤ 20000
needs_few q n k points e =
    let p = fit-proper q n k points e in
    let a : n + 1 ≤ 129 = omega (arith, p.few) in
    let b : n + 3 ≤ 131 = omega (arith, p.few) in
    omega (arith, mul-le-mul a b)

module _ (F : Arithmetic) (points rs ms old new : List ℕ) (ep : length points ≡ length ms) (er : length rs ≡ length ms) (en : length new ≡ length old) (fits : length old ≤ length points) (low : 1 ≤ length old) where
  abbrev xs : List ℕ
  xs = present ms points

  abbrev ys : List ℕ
  ys = present ms rs

  counts : (m : List ℕ) → wrong rs ms (word (total F) points m) ≡ differ (word (total F) xs m) ys
  counts m = sym (same_wrong (value (total F) m) points rs ms ep er)

  -- near the received numbers is within reach
  pub solved-ok : (e : ℕ) → Located (total F) xs ys old new (Ok tt) → e ≡ wrong rs ms (word (total F) points new) → Solved (evaluation F (length points) (length old) points) rs ms old new (Ok e)
  solved-ok e a is = record {
    reached = record {
      message = record { long = en; below = a.0 };
      near = (let n = a.1 in let c = counts new in let l = length-present ms points ep in omega arith);
    };
    counted = is;
  }

  pub solved-err : (f : CodeFault) → Located (total F) xs ys old new (Err f) → Solved (evaluation F (length points) (length old) points) rs ms old new (Err f)
  solved-err f a = record {
    fault = a.0;
    unchanged = a.1;
    none = λ m h. a.2 m h.message.long h.message.below
        (let n = h.near in let c = counts m in let l = length-present ms points ep in let k = h.message.long in omega arith);
  }

  -- fewer places than message numbers are left
  pub solved-few : length xs < length old → new ≡ old → Solved (evaluation F (length points) (length old) points) rs ms old new (Err Reach)
  solved-few few same = record {
    fault = refl;
    unchanged = same;
    none = λ m h. (let n = h.near in let l = length-present ms points ep in absurd (omega arith));
  }

pub evaluates : (F : Arithmetic) → Laws F → (n k : ℕ) (points : List ℕ) → Evaluates F n k points (evaluation F n k points)
evaluates F L n k points = record {
  fit = (fit-proper F.order n k points, proper_fit F.order n k points);
  order = refl;
  long = refl;
  dimension = refl;
  distance = refl;
  entry = λ m j h. get_or-map (value (total F) m) points j 0 0 h;
  sound = λ fit. proper_sound F L n k points (fit-proper F.order n k points fit);
}
