-- Folds over the numbers below n, and how far strides reach.
use Rattle.std.proofs.Common.{◌≡◌, ◌<◌, ◌+◌, ◌-◌, ◌*◌, ℕ, zero, suc, Bool, true, false, List, [], ◌∷◌, ◌++◌, refl, sym, ◌∙◌, ap, arith}
use Rattle.std.proofs.lemmas.{Bool.false≢true, Nat.mul-le}
use Rattle.std.specs.List.{range_with_len, list_all, fold}
use Rattle.dd_minimal.specs.finding.Numbers.{reach}
use Rattle.dd_formula.specs.lemmas.CompositionLaws.{range_more}
use Rattle.dd_values.specs.lemmas.Lists.{passes, range_has}

fold_next : {X : Type 0} (f : X → ℕ → X) (x : X) (a n k : ℕ) → a + n ≡ k → fold f x (range_with_len a (suc n)) ≡ f (fold f x (range_with_len a n)) k
fold_next f x a zero k is = ap (f x) (omega (arith, is))
fold_next f x a (suc n) k is = fold_next f (f x a) (a + 1) n k (omega (arith, is))

pub fold_more : {X : Type 0} (f : X → ℕ → X) (x : X) (n : ℕ) → fold f x (range_with_len 0 (n + 1)) ≡ f (fold f x (range_with_len 0 n)) n
fold_more f x n = ap (λ i. fold f x (range_with_len 0 i)) (let next : n + 1 ≡ suc n = omega arith in next) ∙ fold_next f x 0 n n (omega arith)

-- ---- the reach of strides

pub reach_last : (m : ℕ) (ds : List ℕ) (d : ℕ) → reach m (ds ++ d ∷ []) ≡ (m - 1) * d + reach m ds
reach_last m [] d = refl
reach_last m (e ∷ ds) d = let rest = reach_last m ds d in omega (arith, rest)

pub within_last : (m : ℕ) (ds : List ℕ) (d from n s : ℕ) → from + reach m (ds ++ d ∷ []) < n → s < m → (from + s * d) + reach m ds < n
within_last m ds d from n s within below =
    let last = reach_last m ds d in
    let row = mul-le s d (m - 1) d (omega (arith, below)) (omega arith) in
    omega (arith, within, last, row)
