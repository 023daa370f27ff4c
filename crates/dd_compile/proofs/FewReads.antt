-- A rule reads no more cells at a node than its expansion there has instances (itself, its parts, their parts, and so on).
use Rattle.std.proofs.Common.{◌≡◌, ◌≤◌, ℕ, ◌+◌, List, [], ◌∷◌, map, length, ap, arith, length-append}
use Rattle.std.specs.{Prelude.fold, List.flat_map, BTreeSet.insert_key, Ordering.match_ordering, declared.cmp.Ordering.Ordering}
use Rattle.std.specs.declared.cmp.Ordering.TheVariants.{Less, Equal, Greater}
use Rattle.dd_lattice.specs.{InOrder.in_order, Order.cell_cmp, declared.position.Cell.Cell}
use Rattle.dd_expansion.specs.declared.expanded.Expanded.{Expanded}
use Rattle.dd_expansion.specs.declared.expanded.Expanded.TheFolds.{fold-roll-Expanded, ind-Expanded, map-Expanded}
use Rattle.dd_expansion.specs.declared.expanded.Expanded.TheOpen.{Expanded-F}
use Rattle.dd_expansion.specs.Leaves.{leaf_cells, leaf_cells_step, instances, instances_step, total}
use Rattle.dd_expansion.specs.{Terms.origin_at, lemmas.LeavesAreReads.same_cells}
use Rattle.dd_formula.specs.LocalRule.{LocalRule, cells_at, expansion_at}

abbrev IsFew : Expanded → Type 0
IsFew e = length (leaf_cells e) ≤ instances e

abbrev Known : Type 0
Known = (e : Expanded) × IsFew e

abbrev plain : List Known → List Expanded
plain es = map (λ e. e.0) es

abbrev layer : Expanded-F Known → Expanded-F Expanded
layer y = map-Expanded Known Expanded (λ e. e.0) y

all_few : (es : List Known) → length (flat_map (λ cs. cs) (map leaf_cells (plain es))) ≤ total (map instances (plain es))
all_few [] = omega arith
all_few (e ∷ es) =
    let l = length-append (leaf_cells e.0) (flat_map (λ cs. cs) (map leaf_cells (plain es))) in
    omega (arith, l, e.1, all_few es)

step_few : (y : Expanded-F Known) → length (leaf_cells_step (map-Expanded Expanded (List Cell) leaf_cells (layer y))) ≤ instances_step (map-Expanded Expanded ℕ instances (layer y))
step_few (Expanded-F.Constant b) = omega arith
step_few (Expanded-F.Leaf c s) = omega arith
step_few (Expanded-F.Not e) = omega (arith, e.1)
step_few (Expanded-F.And es) = omega (arith, all_few es)
step_few (Expanded-F.Or es) = omega (arith, all_few es)
step_few (Expanded-F.Iff e f) =
    let l = length-append (leaf_cells e.0) (leaf_cells f.0) in
    omega (arith, l, e.1, f.1)

few_leaves : (e : Expanded) → length (leaf_cells e) ≤ instances e
few_leaves = ind-Expanded IsFew (λ x y is.
    rw (fold-roll-Expanded (List Cell) leaf_cells_step x, fold-roll-Expanded ℕ instances_step x, ← is) (step_few y))

insert_step : (k x : Cell) (xs rest : List Cell) → length rest ≤ length xs + 1 → (r : Ordering) → length (match_ordering r (k ∷ x ∷ xs) (x ∷ xs) (x ∷ rest)) ≤ length xs + 2
insert_step k x xs rest h Less = omega arith
insert_step k x xs rest h Equal = omega arith
insert_step k x xs rest h Greater = omega (arith, h)

length_insert : (ks : List Cell) (k : Cell) → length (insert_key cell_cmp ks k) ≤ length ks + 1
length_insert [] k = omega arith
length_insert (x ∷ xs) k = omega (arith, insert_step k x xs (insert_key cell_cmp xs k) (length_insert xs k) (cell_cmp k x))

length_fold : (cs ks : List Cell) → length (fold (insert_key cell_cmp) ks cs) ≤ length cs + length ks
length_fold [] ks = omega arith
length_fold (c ∷ cs) ks = omega (arith, length_fold cs (insert_key cell_cmp ks c), length_insert ks c)

pub few_reads : (r : LocalRule) → 1 ≤ r.symbols → (a : ℕ) → length (cells_at r a) ≤ instances (expansion_at r a)
few_reads r some a =
    let e = expansion_at r a in
    let same : length (in_order (leaf_cells e)) ≡ length (cells_at r a) = ap length (same_cells r.edges r.symbols some r.formula (origin_at a ∷ [])) in
    omega (arith, same, length_fold (leaf_cells e) [], few_leaves e)
