use Rattle.dd_trail.specs.Copies.{AreCopied}
use Rattle.dd_solver.proofs.search.Search.new.Given as goal

abbrev pub invariant-loop-place : goal.invariant-loop-place
invariant-loop-place l = AreCopied l.database l.watches
