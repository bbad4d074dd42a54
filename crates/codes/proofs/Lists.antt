-- Numbers in a row, and lists brought to a length, by place.
use Rattle.std.proofs.Common.{◌≡◌, ℕ, zero, suc, ◌+◌, ◌<◌, ◌≤◌, List, [], ◌∷◌, ◌++◌, length, get_or, take, replicate, sym, refl, ap, ◌∙◌, arith, length-append}
use lib.ListN.{length-replicate}
use Rattle.std.proofs.lemmas.List.{ext_get_or, get_or-take, length-take-le}
use Rattle.codes.specs.Lists.{counting, filled}

pub length-counting : (i n : ℕ) → length (counting i n) ≡ n
length-counting i zero = refl
length-counting i (suc n) = ap suc (length-counting (i + 1) n)

pub get_or-counting : (i n j : ℕ) → j < n → get_or (counting i n) j 0 ≡ i + j
get_or-counting i zero j h = absurd (omega arith)
get_or-counting i (suc n) zero h = omega arith
get_or-counting i (suc n) (suc j) h = omega (arith, get_or-counting (i + 1) n j (omega arith))

pub get_or-zeros : (n k : ℕ) → ◌≡◌ {A = ℕ} (get_or (replicate n 0) k 0) 0
get_or-zeros zero k = refl
get_or-zeros (suc n) zero = refl
get_or-zeros (suc n) (suc k) = get_or-zeros n k

get_or-before_zeros : (xs : List ℕ) (n k : ℕ) → get_or (xs ++ replicate n 0) k 0 ≡ get_or xs k 0
get_or-before_zeros [] n k = get_or-zeros n k
get_or-before_zeros (x ∷ xs) n zero = refl
get_or-before_zeros (x ∷ xs) n (suc k) = get_or-before_zeros xs n k

pub length-filled : (n : ℕ) (xs : List ℕ) → length (filled n xs) ≡ n
length-filled n xs = length-take-le n (xs ++ replicate n 0) (simp (length-append, length-replicate) (omega arith))

-- a list of n numbers that are those of xs, and 0 past its end
pub filled-by : (n : ℕ) (xs ys : List ℕ) → length ys ≡ n → ((k : ℕ) → k < n → get_or ys k 0 ≡ get_or xs k 0) → ys ≡ filled n xs
filled-by n xs ys l h =
    ext_get_or 0 ys (filled n xs) (l ∙ sym (length-filled n xs))
    (λ k b. let b' : k < n = omega arith in h k b' ∙ sym (get_or-take n (xs ++ replicate n 0) k 0 b' ∙ get_or-before_zeros xs n k))

-- the whole list stands at the front
pub front-filled : (n k : ℕ) (xs : List ℕ) → length xs ≡ k → k ≤ n → take k (filled n xs) ≡ xs
front-filled n k xs l h =
    let long = length-filled n xs in
    let part = length-take-le k (filled n xs) (omega arith) in
    ext_get_or 0 (take k (filled n xs)) xs (part ∙ sym l)
    (λ j b. let b' : j < k = omega arith in let b'' : j < n = omega arith in
    get_or-take k (filled n xs) j 0 b' ∙ get_or-take n (xs ++ replicate n 0) j 0 b'' ∙ get_or-before_zeros xs n j)
