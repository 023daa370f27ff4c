-- The expansion of a formula: a formula without variables that says the same at one cell.
use Rattle.std.specs.Prelude.{ℕ, ◌==◌, Bool, false, List, [], ◌∷◌, ◌++◌, map, Option, Some, None}
use Rattle.std.specs.List.{range_with_len}
use Rattle.dd_lattice.specs.{InOrder.in_order, declared.position.Cell.Cell}
use Rattle.dd_topology.specs.{declared.edge.Edge.Edge, Balls.is_adjacent}
use Rattle.dd_expansion.specs.declared.formulas.Formula.{Formula, TheFolds.fold-Formula}
use Rattle.dd_expansion.specs.declared.formulas.Formula.TheOpen.{Formula-F}
use Rattle.dd_expansion.specs.declared.expanded.Expanded.{Expanded, roll-Expanded}
use Rattle.dd_expansion.specs.{declared.expanded.Expanded.TheOpen.Expanded-F, Terms.cell_of, Terms.same_cell, Terms.balls_of}

abbrev pub constant : Bool → Expanded
constant b = roll-Expanded (Expanded-F.Constant b)

abbrev pub leaf : ℕ → Cell → Expanded
leaf s c = roll-Expanded (Expanded-F.Leaf c s)

abbrev pub negated : Expanded → Expanded
negated e = roll-Expanded (Expanded-F.Not e)

abbrev pub all_of : List Expanded → Expanded
all_of es = roll-Expanded (Expanded-F.And es)

abbrev pub any_of : List Expanded → Expanded
any_of es = roll-Expanded (Expanded-F.Or es)

abbrev pub both_alike : Expanded → Expanded → Expanded
both_alike e f = roll-Expanded (Expanded-F.Iff e f)

-- the expansion of an atom about one cell, or about two cells; the constant false if a cell is missing
abbrev pub at_cell : (Cell → Expanded) → Option Cell → Expanded
at_cell e None = constant false
at_cell e (Some c) = e c

abbrev pub at_cells : (Cell → Cell → Expanded) → Option Cell → Option Cell → Expanded
at_cells e None d = constant false
at_cells e (Some c) d = at_cell (e c) d

-- `both_have` says that both cells have the symbol s, and `equal_at` that both have the same one of n symbols
abbrev pub both_have : Cell → Cell → ℕ → Expanded
both_have c d s = all_of (leaf s c ∷ leaf s d ∷ [])

abbrev pub equal_at : ℕ → Cell → Cell → Expanded
equal_at n c d = any_of (map (both_have c d) (range_with_len 0 n))

-- an expansion for each environment
abbrev pub Expansion : Type 0
Expansion = List Cell → Expanded

abbrev pub expansion_step : List Edge → ℕ → Formula-F Expansion → Expansion
expansion_step es n (Formula-F.Symbol t s) env = at_cell (leaf s) (cell_of es env t)
expansion_step es n (Formula-F.NotSymbol t s) env = at_cell (λ c. negated (leaf s c)) (cell_of es env t)
expansion_step es n (Formula-F.Same t u) env = at_cells (equal_at n) (cell_of es env t) (cell_of es env u)
expansion_step es n (Formula-F.NotSame t u) env = at_cells (λ c d. negated (equal_at n c d)) (cell_of es env t) (cell_of es env u)
expansion_step es n (Formula-F.Adjacent t u) env = at_cells (λ c d. constant (is_adjacent es c d)) (cell_of es env t) (cell_of es env u)
expansion_step es n (Formula-F.Place t u) env = at_cells (λ c d. constant (same_cell c d)) (cell_of es env t) (cell_of es env u)
expansion_step es n (Formula-F.Node t a) env = at_cell (λ c. constant (c.node == a)) (cell_of es env t)
expansion_step es n (Formula-F.Not f) env = negated (f env)
expansion_step es n (Formula-F.And fs) env = all_of (map (λ f. f env) fs)
expansion_step es n (Formula-F.Or fs) env = any_of (map (λ f. f env) fs)
expansion_step es n (Formula-F.Implies f g) env = any_of (negated (f env) ∷ g env ∷ [])
expansion_step es n (Formula-F.Iff f g) env = both_alike (f env) (g env)
expansion_step es n (Formula-F.ForAll bs f) env = all_of (map (λ c. f (env ++ c ∷ [])) (in_order (balls_of es env bs)))
expansion_step es n (Formula-F.Exists bs f) env = any_of (map (λ c. f (env ++ c ∷ [])) (in_order (balls_of es env bs)))

-- the expansion of a formula over n symbols. A quantifier becomes a conjunction or disjunction with one part for each cell of its balls, in cell
-- order. Constants are kept, not simplified away
abbrev pub expansion : List Edge → ℕ → Formula → Expansion
expansion es n = fold-Formula Expansion (expansion_step es n)
