use Rattle.dd_meancycle.specs.table.Rises.{LeastSoFar}
use Rattle.dd_meancycle.proofs.rises.gentlest.Given as goal

abbrev pub invariant-loop-state : goal.invariant-loop-state
invariant-loop-state l = LeastSoFar l.levels l.last l.state l.best
