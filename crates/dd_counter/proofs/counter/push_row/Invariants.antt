use Rattle.dd_counter.specs.{Counter.count, lemmas.Left.Left}
use Rattle.dd_counter.proofs.counter.push_row.Given as goal

abbrev pub invariant-loop-most : goal.invariant-loop-most
invariant-loop-most l = Left (count l.weights l.number l.before) l.most l.below l.initial.cnf l.cnf l.signals.items
