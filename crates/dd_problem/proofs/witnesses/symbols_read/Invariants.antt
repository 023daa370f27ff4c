use Rattle.dd_values.specs.Variables.{true_variables}
use Rattle.dd_problem.specs.Symbols.{AreAllRead}
use Rattle.dd_problem.proofs.witnesses.symbols_read.Given as goal

abbrev pub invariant-loop-number : goal.invariant-loop-number
invariant-loop-number l = AreAllRead (true_variables l.values) l.symbols l.number l.read.items
