use Rattle.dd_simplex.specs.table.Values.{GiveColumns}
use Rattle.dd_simplex.proofs.solution.column_values.Given as goal

abbrev pub invariant-loop-i : goal.invariant-loop-i
invariant-loop-i l = GiveColumns l.lines l.columns l.i l.values.items
