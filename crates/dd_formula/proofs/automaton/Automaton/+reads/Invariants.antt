use Rattle.std.proofs.Common.{◌≡◌, ◌+◌, ◌*◌, true, map, max, take}
use Rattle.std.specs.List.{list_all, flat_map}
use Rattle.dd_lattice.specs.Cells.{shifted}
use Rattle.dd_formula.specs.Automata.{CommonNumbers, IsAutomaton, counted, cells_of, is_cell_of}
use Rattle.dd_formula.proofs.automaton.Automaton.+reads.Given as goal

abbrev pub decreases-reads : goal.decreases-reads
decreases-reads l = 3 * (counted l.self.now).depth

abbrev pub decreases-reads_from : goal.decreases-reads_from
decreases-reads_from l = 3 * (counted l.self.now).depth + 1

abbrev pub decreases-composed_reads : goal.decreases-composed_reads
decreases-composed_reads l = 3 * max (counted l.outer.now).depth (counted l.inner.now).depth + 2

abbrev pub invariant-reads_from-loop-cell : goal.invariant-reads_from-loop-cell
invariant-reads_from-loop-cell l = record {
  list : l.found.items ≡ flat_map (λ c. map (shifted c.position) (cells_of l.self c.node)) (take l.cell-index l.cells);
  placed : (s : CommonNumbers) → IsAutomaton s l.self → list_all (is_cell_of s) l.cells ≡ true → list_all (is_cell_of s) l.found.items ≡ true;
}
