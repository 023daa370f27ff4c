use Rattle.std.proofs.Common.{◌≡◌}
use Rattle.dd_lattice.specs.Boxes.{first_positions}
use Rattle.dd_lattice.proofs.region.positions.Given as goal

abbrev pub invariant-loop-index : goal.invariant-loop-index
invariant-loop-index l = l.members.items ≡ first_positions l.b l.index
