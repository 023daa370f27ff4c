use Rattle.dd_trail.specs.Propagation.{Extends}
use Rattle.dd_trail.specs.Copies.{AreCopied}
use Rattle.dd_trail.proofs.watches.Watches.propagate.Given as goal

abbrev pub invariant-loop-place : goal.invariant-loop-place
invariant-loop-place l = Extends l.database l.fn.trail l.trail × AreCopied l.database l.self
