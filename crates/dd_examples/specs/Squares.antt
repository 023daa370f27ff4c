-- The chessboard, and the hard-square rule: a cell with a 1 has a 0 to its right and above it.
use Rattle.std.specs.Prelude.{ℕ, List, [], ◌∷◌}
use Rattle.dd_topology.specs.{Builtin.square, Sets.all_symbols}
use Rattle.dd_pattern.specs.{declared.periods.Periods.Periods, Tile.Tile, Tile.tile}
use Rattle.dd_expansion.specs.declared.formulas.Formula.{Formula}
use Rattle.dd_expansion.specs.declared.formulas.Formula.TheVariants.{Symbol, And, Implies}
use Rattle.dd_formula.specs.LocalRule.{LocalRule, local_rule}

-- the numbers of the labels `up` and `rt`
abbrev pub up : ℕ
up = 0

abbrev pub right : ℕ
right = 2

-- the formula that says that the cell at the end of these moves from the cell `o`, which is variable 0, has the symbol s
abbrev pub symbol_after : List ℕ → ℕ → Formula
symbol_after moves s = Symbol (record { variable = 0; moves = moves }) s

abbrev pub hard_formula : Formula
hard_formula = Implies (symbol_after [] 1) (And (symbol_after (right ∷ []) 0 ∷ symbol_after (up ∷ []) 0 ∷ []))

-- the rule of hard squares, over the square topology and the symbols 0 and 1
abbrev pub hard : LocalRule
hard = local_rule square (all_symbols 1 2) hard_formula

-- the periods of the chessboard, 2 and 2
abbrev pub two_by_two : Periods
two_by_two = record { x = 2; y = 2; z = 1; shear = 0 }

-- the chessboard; its rows are 1 0 and 0 1
abbrev pub chessboard : Tile
chessboard = tile 2 two_by_two 1 (1 ∷ 0 ∷ 0 ∷ 1 ∷ [])
