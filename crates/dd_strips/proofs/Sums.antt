-- Sums over the numbers below a bound, and over lists.
use Rattle.std.proofs.Common.{◌≡◌, ℕ, zero, suc, ◌+◌, ◌*◌, ◌<◌, List, [], ◌∷◌, length, map, get_or, refl, ap, sym, ◌∙◌, arith}
use Rattle.std.proofs.lemmas.List.{Sums.sum_by-cons, FromFn.sum_by-map-range_with_len_more}
use Rattle.std.specs.{Prelude.sum_by, List.range_with_len}

abbrev pub total_below : (ℕ → ℕ) → ℕ → ℕ
total_below f zero = 0
total_below f (suc n) = total_below f n + f n

pub total_below-same : (f g : ℕ → ℕ) (n : ℕ) → ((k : ℕ) → k < n → f k ≡ g k) → total_below f n ≡ total_below g n
total_below-same f g zero h = refl
total_below-same f g (suc n) h =
    let rest = total_below-same f g n (λ k lt. h k (omega arith)) in
    let here = h n (omega arith) in
    let sum : total_below f n + f n ≡ total_below g n + g n = omega (arith, rest, here) in
    sum

pub total_below-add : (f : ℕ → ℕ) (m n : ℕ) → total_below f (m + n) ≡ total_below f m + total_below (λ k. f (m + k)) n
total_below-add f m zero = ap (total_below f) (let e : m + 0 ≡ m = omega arith in e) ∙ omega arith
total_below-add f m (suc n) =
    let rest = total_below-add f m n in
    let sum : total_below f (m + n) + f (m + n) ≡ total_below f m + (total_below (λ k. f (m + k)) n + f (m + n)) = omega (arith, rest) in
    ap (total_below f) (let e : m + suc n ≡ suc (m + n) = omega arith in e) ∙ sum

pub total_below-first : (f : ℕ → ℕ) (n : ℕ) → total_below f (suc n) ≡ f 0 + total_below (λ k. f (suc k)) n
total_below-first f n =
    let one = total_below-add f 1 n in
    let e : total_below (λ k. f (1 + k)) n ≡ total_below (λ k. f (suc k)) n = total_below-same (λ k. f (1 + k)) (λ k. f (suc k)) n (λ k _. ap f (omega arith)) in
    ap (total_below f) (let s : suc n ≡ 1 + n = omega arith in s) ∙ (one ∙ omega (arith, e))

-- a sum over m rows of n numbers each, as the sum of the rows' sums
pub total_below-rows : (f : ℕ → ℕ) (m n : ℕ) → total_below f (m * n) ≡ total_below (λ i. total_below (λ j. f (i * n + j)) n) m
total_below-rows f zero n = ap (total_below f) (let e : 0 * n ≡ 0 = omega arith in e)
total_below-rows f (suc m) n =
    let rest = total_below-rows f m n in
    let row = total_below-add f (m * n) n in
    let sum : total_below f (m * n + n) ≡ total_below (λ i. total_below (λ j. f (i * n + j)) n) m + total_below (λ j. f (m * n + j)) n = omega (arith, rest, row) in
    ap (total_below f) (let e : suc m * n ≡ m * n + n = omega arith in e) ∙ sum

total_below-both : (f g : ℕ → ℕ) (n : ℕ) → total_below (λ k. f k + g k) n ≡ total_below f n + total_below g n
total_below-both f g zero = refl
total_below-both f g (suc n) =
    let rest = total_below-both f g n in
    let sum : total_below (λ k. f k + g k) n + (f n + g n) ≡ (total_below f n + f n) + (total_below g n + g n) = omega (arith, rest) in
    sum

total_below-none : (n : ℕ) → total_below (λ k. 0) n ≡ 0
total_below-none zero = refl
total_below-none (suc n) = let rest = total_below-none n in let sum : total_below (λ k. 0) n + 0 ≡ 0 = omega (arith, rest) in sum

-- summing a table by rows gives the same as summing it by columns
pub total_below-turned : (f : ℕ → ℕ → ℕ) (m n : ℕ) → total_below (λ i. total_below (f i) n) m ≡ total_below (λ j. total_below (λ i. f i j) m) n
total_below-turned f zero n = sym (total_below-none n)
total_below-turned f (suc m) n =
    let rest = total_below-turned f m n in
    let both = total_below-both (λ j. total_below (λ i. f i j) m) (f m) n in
    let sum : total_below (λ i. total_below (f i) n) m + total_below (f m) n ≡ total_below (λ j. total_below (λ i. f i j) m + f m j) n = omega (arith, rest, both) in
    sum

-- in a sequence that repeats after n terms, any n consecutive terms have the same sum
pub total_below-round : (f : ℕ → ℕ) (n : ℕ) → ((k : ℕ) → f (k + n) ≡ f k) → (x : ℕ) → total_below (λ k. f (x + k)) n ≡ total_below f n
total_below-round f n h zero = total_below-same (λ k. f (0 + k)) f n (λ k _. ap f (omega arith))
total_below-round f n h (suc x) =
    let rest = total_below-round f n h x in
    let first = total_below-first (λ k. f (x + k)) n in
    let here : f (x + 0) ≡ f x = ap f (omega arith) in
    let there : f (x + n) ≡ f x = h x in
    let moved : total_below (λ k. f (suc x + k)) n ≡ total_below (λ k. f (x + suc k)) n = total_below-same (λ k. f (suc x + k)) (λ k. f (x + suc k)) n (λ k _. ap f (omega arith)) in
    let all : total_below (λ k. f (x + k)) n + f (x + n) ≡ f (x + 0) + total_below (λ k. f (x + suc k)) n = first in
    omega (arith, rest, here, there, moved, all)

-- sums over lists
pub sum_by-listed : (g f : ℕ → ℕ) (n : ℕ) → sum_by g (map f (range_with_len 0 n)) ≡ total_below (λ k. g (f k)) n
sum_by-listed g f zero = refl
sum_by-listed g f (suc n) =
    let rest = sum_by-listed g f n in
    let more = sum_by-map-range_with_len_more g f 0 n n (omega arith) in
    let sum : sum_by g (map f (range_with_len 0 (n + 1))) ≡ total_below (λ k. g (f k)) n + g (f n) = omega (arith, rest, more) in
    ap (λ (k : ℕ). sum_by g (map f (range_with_len 0 k))) (let e : suc n ≡ n + 1 = omega arith in e) ∙ sum

pub sum_by-places : (g : ℕ → ℕ) (xs : List ℕ) → sum_by g xs ≡ total_below (λ k. g (get_or xs k 0)) (length xs)
sum_by-places g [] = refl
sum_by-places g (x ∷ xs) =
    let rest = sum_by-places g xs in
    let cons = sum_by-cons g x xs in
    let first = total_below-first (λ k. g (get_or (x ∷ xs) k 0)) (length xs) in
    let sum : sum_by g (x ∷ xs) ≡ total_below (λ k. g (get_or (x ∷ xs) k 0)) (suc (length xs)) = omega (arith, rest, cons, first) in
    sum
