use Rattle.dd_simplex.specs.table.Values.{GiveDuals}
use Rattle.dd_simplex.proofs.solution.dual_values.Given as goal

abbrev pub invariant-loop-j : goal.invariant-loop-j
invariant-loop-j l = GiveDuals l.tableau l.columns l.j l.duals.items
