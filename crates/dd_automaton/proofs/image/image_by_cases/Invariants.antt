use Rattle.std.proofs.Common.{◌≡◌, ◌<◌, ℕ, Some, length, slice_get}
use Rattle.dd_pattern.specs.Tile.{tile_look, cell_in}
use Rattle.dd_formula.specs.Automata.{first_case}
use Rattle.dd_automaton.proofs.image.image_by_cases.Given as goal

-- the symbols made so far are the values at the cells of the box whose numbers are less than `number`
abbrev pub invariant-loop-number : goal.invariant-loop-number
invariant-loop-number l = record {
  as_many : length l.symbols.items ≡ l.number;
  values : (k : ℕ) → k < l.number → slice_get l.symbols.items k ≡ Some (first_case l.cases.cases l.cases.otherwise (tile_look l.periodic) (cell_in l.periodic k));
}
