use Rattle.dd_counter.specs.lemmas.Left.{RowsLeft}
use Rattle.dd_counter.proofs.counter.push_rows.Given as goal

abbrev pub invariant-loop-number : goal.invariant-loop-number
invariant-loop-number l = RowsLeft l.weights l.below l.number l.cells l.initial.cnf l.cnf l.before.items
