-- Sums and lists over the first n numbers.
use Rattle.std.proofs.Common.{◌≡◌, ℕ, zero, suc, ◌+◌, List, [], ◌∷◌, ◌++◌, map, ap, ◌∙◌, add-one, arith, refl, Bool}
use Rattle.std.proofs.lemmas.List.{append-nil, map-append, Concat.flat_map-append, Sums.fold-append}
use Rattle.std.proofs.lemmas.List.Elements.{filter-append}
use Rattle.std.specs.{List.fold, List.flat_map, List.range_with_len, List.filter, Prelude.cond}
use Rattle.dd_expansion.specs.Leaves.{total}

pub push_from : (k n : ℕ) → range_with_len k (suc n) ≡ range_with_len k n ++ (k + n) ∷ []
push_from k zero = let same : k ≡ k + 0 = omega arith in ap (λ m. m ∷ []) same
push_from k (suc n) =
    let same : (k + 1) + n ≡ k + suc n = omega arith in
    ap (λ ms. k ∷ ms) (push_from (k + 1) n ∙ ap (λ m. range_with_len (k + 1) n ++ m ∷ []) same)

pub range_push : (n : ℕ) → range_with_len 0 (n + 1) ≡ range_with_len 0 n ++ n ∷ []
range_push n =
    let same : 0 + n ≡ n = omega arith in
    ap (range_with_len 0) (add-one n) ∙ (push_from 0 n ∙ ap (λ m. range_with_len 0 n ++ m ∷ []) same)

pub total-append : (ms ns : List ℕ) → total (ms ++ ns) ≡ total ms + total ns
total-append [] ns = let same : total ns ≡ 0 + total ns = omega arith in same
total-append (m ∷ ms) ns = let rest = total-append ms ns in omega (arith, rest)

pub total_push : (f : ℕ → ℕ) (n : ℕ) → total (map f (range_with_len 0 (n + 1))) ≡ total (map f (range_with_len 0 n)) + f n
total_push f n =
    let one : total (f n ∷ []) ≡ f n = omega arith in
    ap (λ ms. total (map f ms)) (range_push n)
    ∙ (ap total (map-append f (range_with_len 0 n) (n ∷ []))
    ∙ (total-append (map f (range_with_len 0 n)) (f n ∷ []) ∙ ap (λ m. total (map f (range_with_len 0 n)) + m) one))

-- a fold over joined lists, one list for each of the first n numbers: for one more number, the fold goes on over one more list
pub fold_push : {X Y : Type 0} (h : Y → X → Y) (from : Y) (f : ℕ → List X) (n : ℕ) →
    fold h from (flat_map f (range_with_len 0 (n + 1))) ≡ fold h (fold h from (flat_map f (range_with_len 0 n))) (f n)
fold_push h from f n =
    ap (λ ms. fold h from (flat_map f ms)) (range_push n)
    ∙ (ap (fold h from) (flat_map-append f (range_with_len 0 n) (n ∷ []) ∙ ap (λ xs. flat_map f (range_with_len 0 n) ++ xs) (append-nil (f n)))
    ∙ fold-append h from (flat_map f (range_with_len 0 n)) (f n))

pub filter_push : (q : ℕ → Bool) (n : ℕ) (b : Bool) → q n ≡ b → filter q (range_with_len 0 (n + 1)) ≡ filter q (range_with_len 0 n) ++ cond b (n ∷ []) []
filter_push q n b h = ap (filter q) (range_push n) ∙ (filter-append q (range_with_len 0 n) (n ∷ []) ∙ rw h refl)
