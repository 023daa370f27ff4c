-- How far away rules and automata read cells.
use Rattle.std.specs.{Prelude.ℕ, Prelude.List, Prelude.map, List.flat_map, List.range_with_len}
use Rattle.dd_lattice.specs.declared.position.Cell.{Cell}
use Rattle.dd_topology.specs.Topology.{extent}
use Rattle.dd_expansion.specs.Limits.{greatest}
use Rattle.dd_formula.specs.{LocalRule.LocalRule, LocalRule.cells_at, Automata.cells_of, declared.automaton.Automaton.Automaton}

-- the greatest distance of the cell from the origin along an axis
abbrev pub cell_extent : Cell → ℕ
cell_extent c = extent c.position

-- the greatest distance of any of the cells from the origin along an axis; 0 if there is no cell
abbrev pub farthest : List Cell → ℕ
farthest cs = greatest (map cell_extent cs)

-- the cells that a rule reads at each node of the origin, in one list
abbrev pub all_cells : LocalRule → List Cell
all_cells r = flat_map (cells_at r) (range_with_len 0 r.nodes)

-- how far away a rule reads cells, over all nodes
abbrev pub reach : LocalRule → ℕ
reach r = farthest (all_cells r)

-- the cells that an automaton reads at the first n nodes of the origin, in one list
abbrev pub automaton_cells : ℕ → Automaton → List Cell
automaton_cells n f = flat_map (cells_of f) (range_with_len 0 n)

-- how far away an automaton reads cells, over the first n nodes
abbrev pub automaton_reach : ℕ → Automaton → ℕ
automaton_reach n f = farthest (automaton_cells n f)
