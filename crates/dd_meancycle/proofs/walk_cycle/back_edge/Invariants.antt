use Rattle.std.proofs.Common.{◌≡◌, take, None}
use Rattle.std.specs.List.{find}
use Rattle.dd_meancycle.specs.table.Rises.{is_back}
use Rattle.dd_meancycle.proofs.walk_cycle.back_edge.Given as goal

abbrev pub invariant-loop-edge : goal.invariant-loop-edge
invariant-loop-edge l = find (is_back l.before l.state l.weight) (take l.edge-index l.edges) ≡ None
