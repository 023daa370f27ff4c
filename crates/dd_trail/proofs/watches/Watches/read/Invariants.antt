use Rattle.dd_trail.specs.Propagation.{Extends}
use Rattle.dd_trail.specs.Copies.{AreCopied}
use Rattle.dd_trail.proofs.watches.Watches.read.Given as goal

abbrev pub invariant-loop : goal.invariant-loop
invariant-loop l = Extends l.database l.initial.trail l.trail × AreCopied l.database l.self
