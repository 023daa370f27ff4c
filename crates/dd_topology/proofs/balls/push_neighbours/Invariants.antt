use Rattle.std.proofs.Common.{◌≡◌, ◌++◌, take, true}
use Rattle.std.specs.List.{flat_map}
use Rattle.dd_topology.specs.Balls.{beside, are_in_range}
use Rattle.dd_topology.proofs.balls.push_neighbours.Given as goal

abbrev pub invariant-loop-edge : goal.invariant-loop-edge
invariant-loop-edge l =
    (l.reached.items ≡ l.initial.reached.items ++ flat_map (beside l.cell) (take l.edge-index l.edges)) × (are_in_range (flat_map (beside l.cell) (take l.edge-index l.edges)) ≡ true)
