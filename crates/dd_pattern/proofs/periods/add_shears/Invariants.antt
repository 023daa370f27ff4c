use Rattle.dd_pattern.specs.listing.Adding.{IsAdded, HasShear}
use Rattle.dd_pattern.proofs.periods.add_shears.Given as goal

abbrev pub invariant-loop-shear : goal.invariant-loop-shear
invariant-loop-shear l = IsAdded l.initial.found.keys l.found.keys (HasShear l.shear l.x l.y l.z)
