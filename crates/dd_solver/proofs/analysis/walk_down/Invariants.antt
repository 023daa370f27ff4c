use Rattle.std.proofs.Common.{length}
use Rattle.dd_solver.proofs.Walk.{Walk}
use Rattle.dd_solver.proofs.analysis.walk_down.Given as goal

abbrev pub invariant-loop-i : goal.invariant-loop-i
invariant-loop-i l = Walk (length l.marked) l.database l.trail.entries l.i l.marked l.literals.items l.hints.items l.backjump
