use Rattle.dd_lattice.proofs.GrowthLaws.{near_nothing}
use Rattle.dd_lattice.proofs.region.Region.empty.Goals as goal

pub invariant_of-result : goal.invariant_of-result
invariant_of-result c = rw c.new.ensures.items (near_nothing 1 0).region
