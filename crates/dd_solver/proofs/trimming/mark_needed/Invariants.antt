use Rattle.dd_solver.specs.searching.Marking.{IsMarking}
use Rattle.dd_solver.proofs.trimming.mark_needed.Given as goal

abbrev pub invariant-loop-place : goal.invariant-loop-place
invariant-loop-place l = IsMarking l.clauses l.place l.steps l.marked
