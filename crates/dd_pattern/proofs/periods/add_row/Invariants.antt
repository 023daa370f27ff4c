use Rattle.dd_pattern.specs.listing.Adding.{IsAdded, HasRow}
use Rattle.dd_pattern.proofs.periods.add_row.Given as goal

abbrev pub invariant-loop-z : goal.invariant-loop-z
invariant-loop-z l = IsAdded l.initial.found.keys l.found.keys (HasRow l.dim l.z l.x l.y)
