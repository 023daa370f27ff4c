use Rattle.dd_compile.specs.lemmas.CaseGates.{Giving}
use Rattle.dd_compile.proofs.values.give.Given as goal

abbrev pub invariant-loop-symbol : goal.invariant-loop-symbol
invariant-loop-symbol l = Giving l.symbols l.given l.chosen l.symbol l.initial.circuit l.circuit l.signals.items
