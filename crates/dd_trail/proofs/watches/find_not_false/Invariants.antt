use Rattle.dd_trail.specs.keeping.Copying.{AreDenied}
use Rattle.dd_trail.proofs.watches.find_not_false.Given as goal

abbrev pub invariant-loop-place : goal.invariant-loop-place
invariant-loop-place l = AreDenied l.denied l.literals l.from l.place
