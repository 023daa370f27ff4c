-- Expansions: their truth, their leaves and their sizes.
use Rattle.std.specs.Prelude.{ℕ, ◌+◌, ◌&&◌, not, Bool, true, is_some, cond, None, List, [], ◌∷◌, ◌++◌, length}
use Rattle.std.specs.{Bool.beq, List.list_all, List.list_any, List.flat_map}
use Rattle.dd_lattice.specs.{Place.Place, Place.moved, Place.is_in_range, Cells.shifted, declared.position.Cell.Cell}
use Rattle.dd_pattern.specs.Reading.{Look}
use Rattle.dd_expansion.specs.declared.expanded.Expanded.{Expanded, TheFolds.fold-Expanded}
use Rattle.dd_expansion.specs.{declared.expanded.Expanded.TheOpen.Expanded-F, Truth.is_symbol}

abbrev pub holds_step : Expanded-F (Look → Bool) → Look → Bool
holds_step (Expanded-F.Constant b) look = b
holds_step (Expanded-F.Leaf c s) look = is_symbol s (look c)
holds_step (Expanded-F.Not e) look = not (e look)
holds_step (Expanded-F.And es) look = list_all (λ e. e look) es
holds_step (Expanded-F.Or es) look = list_any (λ e. e look) es
holds_step (Expanded-F.Iff e f) look = beq (e look) (f look)

-- the truth of an expansion, with the symbols that the look-up gives to cells
abbrev pub holds : Expanded → Look → Bool
holds = fold-Expanded (Look → Bool) holds_step

-- a test of a leaf, by its cell and its symbol
abbrev pub LeafTest : Type 0
LeafTest = Cell → ℕ → Bool

abbrev pub leaves_pass_step : LeafTest → Expanded-F Bool → Bool
leaves_pass_step test (Expanded-F.Constant b) = true
leaves_pass_step test (Expanded-F.Leaf c s) = test c s
leaves_pass_step test (Expanded-F.Not e) = e
leaves_pass_step test (Expanded-F.And es) = list_all (λ e. e) es
leaves_pass_step test (Expanded-F.Or es) = list_all (λ e. e) es
leaves_pass_step test (Expanded-F.Iff e f) = e && f

-- each leaf passes the test
abbrev pub leaves_pass : LeafTest → Expanded → Bool
leaves_pass test = fold-Expanded Bool (leaves_pass_step test)

-- the cell of each leaf has a symbol
abbrev pub given : Expanded → Look → Bool
given e look = leaves_pass (λ c s. is_some (look c)) e

abbrev pub leaf_cells_step : Expanded-F (List Cell) → List Cell
leaf_cells_step (Expanded-F.Constant b) = []
leaf_cells_step (Expanded-F.Leaf c s) = c ∷ []
leaf_cells_step (Expanded-F.Not e) = e
leaf_cells_step (Expanded-F.And es) = flat_map (λ e. e) es
leaf_cells_step (Expanded-F.Or es) = flat_map (λ e. e) es
leaf_cells_step (Expanded-F.Iff e f) = e ++ f

-- the cells of the leaves, in the order of the leaves
abbrev pub leaf_cells : Expanded → List Cell
leaf_cells = fold-Expanded (List Cell) leaf_cells_step

abbrev pub total : List ℕ → ℕ
total [] = 0
total (n ∷ ns) = n + total ns

abbrev pub instances_step : Expanded-F ℕ → ℕ
instances_step (Expanded-F.Constant b) = 1
instances_step (Expanded-F.Leaf c s) = 1
instances_step (Expanded-F.Not e) = 1 + e
instances_step (Expanded-F.And es) = 1 + total es
instances_step (Expanded-F.Or es) = 1 + total es
instances_step (Expanded-F.Iff e f) = 1 + (e + f)

-- the number of instances, which are the expansion itself, its parts, their parts, and so on
abbrev pub instances : Expanded → ℕ
instances = fold-Expanded ℕ instances_step

abbrev pub clause_count_step : Expanded-F ℕ → ℕ
clause_count_step (Expanded-F.Constant b) = 1
clause_count_step (Expanded-F.Leaf c s) = 0
clause_count_step (Expanded-F.Not e) = e
clause_count_step (Expanded-F.And es) = total es + (length es + 1)
clause_count_step (Expanded-F.Or es) = total es + (length es + 1)
clause_count_step (Expanded-F.Iff e f) = (e + f) + 4

-- the number of clauses of an expansion's gates. Each constant has 1, each `And` or `Or` of k parts has k + 1, and each `Iff` has 4. A `Not` or a
-- leaf has none of its own
abbrev pub clause_count : Expanded → ℕ
clause_count = fold-Expanded ℕ clause_count_step

-- the symbols as seen from v: c gets the symbol of the cell that is c moved by v, or none if the moved cell is out of range
abbrev pub seen : Look → Place → Look
seen look v c = cond (is_in_range (moved c.position v)) (look (shifted v c)) None
