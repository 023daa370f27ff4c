-- The truth of a formula, by recursion on the formula (Tarski 1933). A cell may have no symbol. Then it is false that it has a given symbol, and it
-- is false that it has the same symbol as another cell or as itself.
use Rattle.std.specs.Prelude.{ℕ, ◌==◌, ◌||◌, not, Bool, false, List, [], ◌∷◌, ◌++◌, Option, Some, None}
use Rattle.std.specs.{Bool.beq, List.list_all, List.list_any}
use Rattle.dd_lattice.specs.declared.position.Cell.{Cell}
use Rattle.dd_topology.specs.{declared.edge.Edge.Edge, Balls.is_adjacent}
use Rattle.dd_pattern.specs.Reading.{Look}
use Rattle.dd_expansion.specs.declared.formulas.Formula.{Formula, TheFolds.fold-Formula}
use Rattle.dd_expansion.specs.declared.formulas.Formula.TheOpen.{Formula-F}
use Rattle.dd_expansion.specs.Terms.{cell_of, on_cell, on_cells, same_cell, balls_of}

-- the symbol exists, and it is s
abbrev pub is_symbol : ℕ → Option ℕ → Bool
is_symbol s None = false
is_symbol s (Some a) = a == s

-- both symbols exist, and they are equal
abbrev pub are_equal : Option ℕ → Option ℕ → Bool
are_equal None b = false
are_equal (Some a) b = is_symbol a b

-- a truth value for each environment and each look-up, which gives cells their symbols
abbrev pub Truth : Type 0
Truth = List Cell → Look → Bool

abbrev pub truth_step : List Edge → Formula-F Truth → Truth
truth_step es (Formula-F.Symbol t s) env look = on_cell (λ c. is_symbol s (look c)) (cell_of es env t)
truth_step es (Formula-F.NotSymbol t s) env look = on_cell (λ c. not (is_symbol s (look c))) (cell_of es env t)
truth_step es (Formula-F.Same t u) env look = on_cells (λ c d. are_equal (look c) (look d)) (cell_of es env t) (cell_of es env u)
truth_step es (Formula-F.NotSame t u) env look = on_cells (λ c d. not (are_equal (look c) (look d))) (cell_of es env t) (cell_of es env u)
truth_step es (Formula-F.Adjacent t u) env look = on_cells (is_adjacent es) (cell_of es env t) (cell_of es env u)
truth_step es (Formula-F.Place t u) env look = on_cells same_cell (cell_of es env t) (cell_of es env u)
truth_step es (Formula-F.Node t a) env look = on_cell (λ c. c.node == a) (cell_of es env t)
truth_step es (Formula-F.Not f) env look = not (f env look)
truth_step es (Formula-F.And fs) env look = list_all (λ f. f env look) fs
truth_step es (Formula-F.Or fs) env look = list_any (λ f. f env look) fs
truth_step es (Formula-F.Implies f g) env look = not (f env look) || g env look
truth_step es (Formula-F.Iff f g) env look = beq (f env look) (g env look)
truth_step es (Formula-F.ForAll bs f) env look = list_all (λ c. f (env ++ c ∷ []) look) (balls_of es env bs)
truth_step es (Formula-F.Exists bs f) env look = list_any (λ c. f (env ++ c ∷ []) look) (balls_of es env bs)

abbrev pub truth : List Edge → Formula → Truth
truth es = fold-Formula Truth (truth_step es)
