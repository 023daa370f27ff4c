-- The number of an expansion's gates is at most the number of its instances (itself, its parts, their parts, and so on). It is
-- also at most the number of the clauses of these gates.
use Rattle.std.proofs.Common.{◌≤◌, ℕ, List, [], ◌∷◌, map, arith}
use Rattle.dd_expansion.specs.declared.expanded.Expanded.{Expanded}
use Rattle.dd_expansion.specs.declared.expanded.Expanded.TheFolds.{fold-roll-Expanded, ind-Expanded, map-Expanded}
use Rattle.dd_expansion.specs.declared.expanded.Expanded.TheOpen.{Expanded-F}
use Rattle.dd_expansion.specs.Leaves.{clause_count, clause_count_step, instances, instances_step, total}
use Rattle.dd_compile.specs.Compiling.{gate_count, gate_count_step}

abbrev IsFew : Expanded → Type 0
IsFew e = gate_count e ≤ instances e

abbrev Known : Type 0
Known = (e : Expanded) × IsFew e

abbrev plain : List Known → List Expanded
plain es = map (λ e. e.0) es

abbrev layer : Expanded-F Known → Expanded-F Expanded
layer y = map-Expanded Known Expanded (λ e. e.0) y

all_few : (es : List Known) → total (map gate_count (plain es)) ≤ total (map instances (plain es))
all_few [] = omega arith
all_few (e ∷ es) = let rest = all_few es in let one = e.1 in omega (arith, one, rest)

step_few : (y : Expanded-F Known) → gate_count_step (map-Expanded Expanded ℕ gate_count (layer y)) ≤ instances_step (map-Expanded Expanded ℕ instances (layer y))
step_few (Expanded-F.Constant b) = omega arith
step_few (Expanded-F.Leaf c s) = omega arith
step_few (Expanded-F.Not e) = let one = e.1 in omega (arith, one)
step_few (Expanded-F.And es) = let all = all_few es in omega (arith, all)
step_few (Expanded-F.Or es) = let all = all_few es in omega (arith, all)
step_few (Expanded-F.Iff e f) = let one = e.1 in let two = f.1 in omega (arith, one, two)

pub few_gates : (e : Expanded) → gate_count e ≤ instances e
few_gates = ind-Expanded IsFew (λ x y is.
    rw (fold-roll-Expanded ℕ gate_count_step x, fold-roll-Expanded ℕ instances_step x, ← is) (step_few y))

abbrev HasEnough : Expanded → Type 0
HasEnough e = gate_count e ≤ clause_count e

abbrev Clausal : Type 0
Clausal = (e : Expanded) × HasEnough e

abbrev bare : List Clausal → List Expanded
bare es = map (λ e. e.0) es

abbrev bare_layer : Expanded-F Clausal → Expanded-F Expanded
bare_layer y = map-Expanded Clausal Expanded (λ e. e.0) y

all_enough : (es : List Clausal) → total (map gate_count (bare es)) ≤ total (map clause_count (bare es))
all_enough [] = omega arith
all_enough (e ∷ es) = let rest = all_enough es in let one = e.1 in omega (arith, rest, one)

step_enough : (y : Expanded-F Clausal) → gate_count_step (map-Expanded Expanded ℕ gate_count (bare_layer y)) ≤ clause_count_step (map-Expanded Expanded ℕ clause_count (bare_layer y))
step_enough (Expanded-F.Constant b) = omega arith
step_enough (Expanded-F.Leaf c s) = omega arith
step_enough (Expanded-F.Not e) = let one = e.1 in omega (arith, one)
step_enough (Expanded-F.And es) = let all = all_enough es in omega (arith, all)
step_enough (Expanded-F.Or es) = let all = all_enough es in omega (arith, all)
step_enough (Expanded-F.Iff e f) = let one = e.1 in let two = f.1 in omega (arith, one, two)

pub gates_below : (e : Expanded) → gate_count e ≤ clause_count e
gates_below = ind-Expanded HasEnough (λ x y is.
    rw (fold-roll-Expanded ℕ gate_count_step x, fold-roll-Expanded ℕ clause_count_step x, ← is) (step_enough y))
