use Rattle.std.proofs.Common.{◌≡◌, [], take, drop, map}
use Rattle.std.specs.List.{flat_map}
use Rattle.dd_faults.specs.Commands.{edge_faults}
use Rattle.dd_meanings.specs.Topologies.{edge_of}
use Rattle.dd_meanings.proofs.topologies.edges_of.Given as goal

abbrev pub invariant-loop-edge : goal.invariant-loop-edge
invariant-loop-edge l =
    (l.edges.items ≡ map (edge_of l.context.text l.labels l.context.known.setting.nodes) (take l.edge-index l.written)) × (flat_map (edge_faults l.context) (drop l.edge-index l.written) ≡ [])
