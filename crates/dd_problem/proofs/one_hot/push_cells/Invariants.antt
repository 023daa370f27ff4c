use Rattle.std.proofs.Common.{◌≡◌, ◌++◌, take}
use Rattle.dd_problem.specs.Clauses.{cell_clauses}
use Rattle.dd_problem.proofs.one_hot.push_cells.Given as goal

abbrev pub invariant-loop-cell : goal.invariant-loop-cell
invariant-loop-cell l = record {
  number : l.number ≡ l.cell-index;
  variables : l.cnf.variables ≡ l.initial.cnf.variables;
  clauses : l.cnf.clauses ≡ l.initial.cnf.clauses ++ cell_clauses l.premise (take l.cell-index l.cells);
}
