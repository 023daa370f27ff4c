-- The count of clauses for a least weight. To cut a number off at a limit is to replace it by limit + 1 if it is greater than the limit. If each step
-- of the count is cut off at a limit, the result is the whole count, cut off at this limit.
use Rattle.std.proofs.Common.{◌≡◌, ℕ, ◌+◌, ◌*◌, ap, ◌∙◌, arith}
use Rattle.dd_formula.specs.{Counts.cut, lemmas.Cuts.cut_times_left, lemmas.Cuts.cut_times_right}

-- a product that is cut off stays the same if its first factor is cut off beforehand
pub next_factor : (l first second whole part : ℕ) → first ≡ cut l whole → second ≡ cut l (first * part) → second ≡ cut l (whole * part)
next_factor l first second whole part is told = told ∙ (ap (λ n. cut l (n * part)) is ∙ cut_times_left l whole part)

-- a product that is cut off stays the same if both factors are cut off beforehand
both_factors : (l a b product first second : ℕ) → a ≡ cut l first → b ≡ cut l second → product ≡ cut l (a * b) → product ≡ cut l (first * second)
both_factors l a b product first second is_a is_b told =
    next_factor l a product first b is_a told ∙ (ap (λ n. cut l (first * n)) is_b ∙ cut_times_right l first second)

sum_cut : (l a b both all first second : ℕ) → a ≡ cut l first → b ≡ cut l second → both ≡ cut l (a + b) → all ≡ cut l (both + 1) →
    all ≡ cut l (first + 0 + second + 1)
sum_cut l a b both all first second is_a is_b is_both is_all = omega arith

pub clauses_cut : (l v p n g s positions place torus cells heaviest each gates both all : ℕ) → positions ≡ cut l v → place ≡ cut l p →
    torus ≡ cut l (positions * place) → cells ≡ cut l (v * n) → heaviest ≡ cut l (cells * g) → each ≡ cut l (heaviest * s) →
    gates ≡ cut l (cells * each) → both ≡ cut l (torus + gates) → all ≡ cut l (both + 1) →
    all ≡ cut l (v * p + 0 + v * n * (v * n * g * s) + 1)
clauses_cut l v p n g s positions place torus cells heaviest each gates both all is_v is_p is_torus is_cells is_heaviest is_each is_gates is_both is_all =
    let weight = next_factor l cells heaviest (v * n) g is_cells is_heaviest in
    let some = next_factor l heaviest each (v * n * g) s weight is_each in
    sum_cut l torus gates both all (v * p) (v * n * (v * n * g * s))
    (both_factors l positions place torus v p is_v is_p is_torus)
    (both_factors l cells each gates (v * n) (v * n * g * s) is_cells some is_gates)
    is_both is_all
