use Rattle.dd_problem.proofs.Parting.{Parting}
use Rattle.dd_problem.proofs.differing.compile_apart.Given as goal

abbrev pub invariant-loop-number : goal.invariant-loop-number
invariant-loop-number l = Parting l.first l.second l.number l.initial.circuit l.circuit l.signals.items
