use Rattle.std.proofs.Common.{length}
use Rattle.dd_counter.specs.{Counter.of_symbol, lemmas.Left.Left}
use Rattle.dd_counter.proofs.counter.push_count.Given as goal

abbrev pub invariant-loop-symbol : goal.invariant-loop-symbol
invariant-loop-symbol l = Left (of_symbol l.weights l.number l.most l.before) l.symbol (length l.weights) l.initial.cnf l.cnf l.members.items
