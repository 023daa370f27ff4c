use Rattle.std.proofs.Common.{◌≡◌, map, take}
use Rattle.std.specs.List.{All}
use Rattle.dd_lattice.specs.Place.{IsInRange, moved}
use Rattle.dd_lattice.proofs.region.all_moved.Given as goal

abbrev pub invariant-loop-p : goal.invariant-loop-p
invariant-loop-p l = (l.members.items ≡ map (λ p. moved p l.by) (take l.p-index l.list)) × All IsInRange l.members.items
