use Rattle.dd_pattern.specs.listing.Adding.{IsAdded, HasRow, IsPeriodUpTo}
use Rattle.dd_pattern.proofs.periods.add_plane.Given as goal

abbrev pub invariant-loop-y : goal.invariant-loop-y
invariant-loop-y l = IsAdded l.initial.found.keys l.found.keys (IsPeriodUpTo (HasRow l.dim l.high l.x) (λ q. q.y) l.y)
