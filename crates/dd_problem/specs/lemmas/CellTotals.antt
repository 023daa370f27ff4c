-- Sums over the cells of a box.
use Rattle.std.proofs.Common.{◌≡◌, ℕ, zero, suc, ◌+◌, ◌*◌, ◌%◌, ◌<◌, map, refl, ap, ◌∙◌, arith}
use Rattle.std.proofs.lemmas.{List.map-append, Nat.mod-mul-add}
use Rattle.std.specs.List.{range_with_len}
use Rattle.dd_lattice.specs.Boxes.{Bounds, volume}
use Rattle.dd_expansion.specs.Leaves.{total, clause_count}
use Rattle.dd_formula.specs.{LocalRule.LocalRule, LocalRule.expansion_at, Counts.over_nodes, lemmas.Ranges.total-append}
use Rattle.dd_problem.specs.{Layouts.nth_cell, Layouts.cells_in, lemmas.CellOrder.range_append, lemmas.CellOrder.cells_by_number}
use Rattle.dd_problem.specs.lemmas.GateCounts.{at_cell}

row_total : (f g : ℕ → ℕ) (b n a : ℕ) → ((k : ℕ) → k < a + n → g (b + k) ≡ f k) → total (map g (range_with_len (b + a) n)) ≡ total (map f (range_with_len a n))
row_total f g b zero a h = refl
row_total f g b (suc n) a h =
    let e : b + a + 1 ≡ b + (a + 1) = omega arith in
    let here = h a (omega arith) in
    let rest = row_total f g b n (a + 1) (λ k below. h k (omega arith)) in
    let moved = ap (λ j. total (map g (range_with_len j n))) e in
    omega (arith, here, rest, moved)

box_total : (f : ℕ → ℕ) (m v : ℕ) → total (map (λ k. f (k % m)) (range_with_len 0 (v * m))) ≡ v * over_nodes f m
box_total f m zero =
    let none : 0 * m ≡ 0 = omega arith in
    let empty = ap (λ n. total (map (λ k. f (k % m)) (range_with_len 0 n))) none in
    omega (arith, empty)
box_total f m (suc v) =
    let g : ℕ → ℕ = λ k. f (k % m) in
    let size : suc v * m ≡ v * m + m = omega arith in
    let here : 0 + v * m ≡ v * m + 0 = omega arith in
    let split = ap (λ n. total (map g (range_with_len 0 n))) size
    ∙ (ap (λ r. total (map g r)) (range_append (v * m) m 0)
    ∙ (ap total (map-append g (range_with_len 0 (v * m)) (range_with_len (0 + v * m) m)) ∙ total-append (map g (range_with_len 0 (v * m))) (map g (range_with_len (0 + v * m) m)))) in
    let moved = ap (λ j. total (map g (range_with_len j m))) here in
    let row = row_total f g (v * m) m 0 (λ k below. ap f (mod-mul-add v m k (omega arith))) in
    let before = box_total f m v in
    omega (arith, split, moved, row, before)

total_alike : {X : Type 0} (f g : X → ℕ) (h : ℕ → X) (n a : ℕ) → total (map f (map h (range_with_len a n))) ≡ total (map (λ k. f (h k)) (range_with_len a n))
total_alike f g h zero a = refl
total_alike f g h (suc n) a = let rest = total_alike f g h n (a + 1) in omega (arith, rest)

pub cells_total : (x : LocalRule) (b : Bounds) (m : ℕ) → total (map (at_cell x) (cells_in b m)) ≡ volume b * over_nodes (λ a. clause_count (expansion_at x a)) m
cells_total x b m =
    ap (λ cs. total (map (at_cell x) cs)) (cells_by_number b m)
    ∙ (total_alike (at_cell x) (at_cell x) (nth_cell b m) (volume b * m) 0 ∙ box_total (λ a. clause_count (expansion_at x a)) m (volume b))
