use Rattle.std.proofs.Common.{◌++◌, ap, ◌∙◌, arith}
use Rattle.dd_problem.specs.{Clauses.symbol_clauses, lemmas.RangesLeft.cells_step}
use Rattle.dd_problem.proofs.one_hot.push_cells.Goals as goal

pub loop-cell-preserved : goal.loop-cell-preserved
loop-cell-preserved c = record {
  number = omega arith;
  variables = c.in_ok-push_cell.ensures.variables ∙ c.loop-cell.invariant.variables;
  clauses =
      cells_step c.args.premise.now c.args.cells.now c.loop-cell.cell-index c.cell-item.result c.args.cnf.now.clauses c.loop-cell.cnf.clauses c.push_cell.new.cnf.clauses c.loop-cell-test.true
      c.cell-item.is c.loop-cell.invariant.clauses
      (c.in_ok-push_cell.ensures.ok ∙ ap (λ k. c.loop-cell.cnf.clauses ++ symbol_clauses c.args.premise.now k c.cell-item.result.node) c.loop-cell.invariant.number);
}
