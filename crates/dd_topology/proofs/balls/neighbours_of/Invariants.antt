use Rattle.std.proofs.Common.{◌≡◌, take, true}
use Rattle.std.specs.List.{flat_map}
use Rattle.dd_topology.specs.Balls.{neighbours, are_in_range}
use Rattle.dd_topology.proofs.balls.neighbours_of.Given as goal

abbrev pub invariant-loop-cell : goal.invariant-loop-cell
invariant-loop-cell l = (l.reached.items ≡ flat_map (neighbours l.edges) (take l.cell-index l.cells)) × (are_in_range (flat_map (neighbours l.edges) (take l.cell-index l.cells)) ≡ true)
