use Rattle.std.proofs.Common.{◌≡◌, true}
use Rattle.std.specs.List.{list_all, range_with_len}
use Rattle.dd_topology.specs.Sets.{allows}
use Rattle.dd_maps.proofs.guarded.allows_all.Given as goal

abbrev pub invariant-loop-symbol : goal.invariant-loop-symbol
invariant-loop-symbol l = list_all (allows l.sets l.node) (range_with_len 0 l.symbol) ≡ true
