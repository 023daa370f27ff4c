use Rattle.dd_compile.specs.lemmas.CaseGates.{Choosing}
use Rattle.dd_compile.proofs.values.choose.Given as goal

abbrev pub invariant-loop-signal : goal.invariant-loop-signal
invariant-loop-signal l = Choosing l.rules l.signal-index l.initial.circuit l.circuit l.chosen.items l.before.items
