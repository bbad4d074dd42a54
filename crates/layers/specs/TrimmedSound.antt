-- A fit trimmed code keeps what a fit code promises.
use Rattle.std.specs.Prelude.{◌≡◌, ℕ, zero, suc, ◌-◌, ◌<◌, List, ◌++◌, length, take, replicate, Ok, Err, refl}
use Rattle.std.proofs.Common.{ltb, sym, ap, ◌∙◌, arith, length-append}
use lib.ListN.{length-replicate}
use Rattle.std.proofs.ByRecursion.{All-append}
use Rattle.std.proofs.lemmas.List.{take_at}
use Rattle.std.proofs.lemmas.Bool.Decides.{nat_tests}
use Rattle.fields.specs.Numbers.{Below}
use Rattle.fields.specs.Checks.{Check, unless, and_then}
use Rattle.codes.specs.Meaning.{Meaning, Message, Sound}
use Rattle.codes.specs.declared.fault.FitnessFault.{FitnessFault}
use Rattle.codes.specs.declared.fault.FitnessFault.TheVariants.{Trim}
use Rattle.layers.specs.Trimmed.{trimmed}

below-zeros : (q z : ℕ) → 0 < q → Below q (replicate z 0)
below-zeros q zero h = tt
below-zeros q (suc z) h = (h, below-zeros q z h)

split_fit : (f : Check FitnessFault) (k z : ℕ) → and_then f (unless (ltb z k) Trim (Ok tt)) ≡ Ok tt → (f ≡ Ok tt) × (z < k)
split_fit (Ok u) k z e = (refl, grind (arith, nat_tests))
split_fit (Err f) k z e = let z : ◌≡◌ {A = ℕ} 0 1 = cc in absurd (omega arith)

-- a fit trimmed code is over a fit code, and leaves a number of its messages
pub fit-below : (z : ℕ) (M : Meaning) → (trimmed z M).fitness ≡ Ok tt → (M.fitness ≡ Ok tt) × (z < M.dimension)
fit-below z M e = split_fit M.fitness M.dimension z e

module _ (z : ℕ) (M : Meaning) (s : Sound M) (some : z < M.dimension) where
  -- a message of the trimmed code, with the zeros, is one of the code below
  pub padded : (m : List ℕ) → Message (trimmed z M) m → Message M (m ++ replicate z 0)
  padded m h = record {
    long = let l = h.long in simp (length-append, length-replicate) (omega arith);
    below = All-append (λ x. x < M.order) m (replicate z 0) h.below (below-zeros M.order z (let l = s.order_low in omega arith));
  }

  pub trimmed-sound : Sound (trimmed z M)
  trimmed-sound = record {
    order_low = s.order_low;
    order_high = s.order_high;
    length_low = s.length_low;
    length_high = s.length_high;
    dimension_low = omega arith;
    dimension_high = let h = s.dimension_high in omega arith;
    distance_low = s.distance_low;
    distance_high = s.distance_high;
    word_long = λ m h. s.word_long (m ++ replicate z 0) (padded m h);
    word_below = λ m h. s.word_below (m ++ replicate z 0) (padded m h);
    apart = λ m m' h h' ne. s.apart (m ++ replicate z 0) (m' ++ replicate z 0) (padded m h) (padded m' h') (λ e. ne (front m m' h.long h'.long e));
  }
    where
      front : (m m' : List ℕ) → length m ≡ M.dimension - z → length m' ≡ M.dimension - z → m ++ replicate z 0 ≡ m' ++ replicate z 0 → m ≡ m'
      front m m' l l' e = sym (take_at m (replicate z 0) (M.dimension - z) l) ∙ ap (take (M.dimension - z)) e ∙ take_at m' (replicate z 0) (M.dimension - z) l'
