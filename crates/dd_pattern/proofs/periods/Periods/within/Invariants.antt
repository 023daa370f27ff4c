use Rattle.std.proofs.Common.{[]}
use Rattle.dd_pattern.specs.listing.Adding.{IsAdded, HasBox}
use Rattle.dd_pattern.proofs.periods.Periods.within.Given as goal

abbrev pub invariant-loop-x : goal.invariant-loop-x
invariant-loop-x l = IsAdded [] l.found.keys (HasBox l.dim l.most l.x)
