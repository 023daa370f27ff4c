use Rattle.std.proofs.Common.{◌≡◌, map}
use Rattle.dd_maps.specs.Guarded.{guard, guarded_nodes}
use Rattle.dd_maps.proofs.guarded.guards.Given as goal

abbrev pub invariant-loop-node : goal.invariant-loop-node
invariant-loop-node l = l.guards.items ≡ map (guard l.sets) (guarded_nodes l.sets l.node)
