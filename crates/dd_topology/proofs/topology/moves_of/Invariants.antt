use Rattle.std.proofs.Common.{◌≡◌, map, take}
use Rattle.dd_topology.specs.{Topology.AreSingle, keeping.Kept.move_of}
use Rattle.dd_topology.proofs.topology.moves_of.Given as goal

abbrev pub invariant-loop-edge : goal.invariant-loop-edge
invariant-loop-edge l = (l.moves.keys ≡ map move_of (take l.edge-index l.edges)) × AreSingle (take l.edge-index l.edges)
