use Rattle.std.proofs.Common.{◌≡◌, take, map, ◌∷◌}
use Rattle.dd_lattice.specs.Cells.{shifted}
use Rattle.dd_expansion.specs.Limits.{greatest}
use Rattle.dd_formula.specs.LocalRule.{cells_at}
use Rattle.dd_numbered.specs.Numbering.{rank}
use Rattle.dd_rows.proofs.search.last_number.Given as goal

abbrev pub invariant-loop-read : goal.invariant-loop-read
invariant-loop-read l =
    l.last ≡ greatest (rank l.cells l.cell ∷ map (λ d. rank l.cells (shifted l.cell.position d)) (take l.read-index (cells_at l.rule l.cell.node)))
