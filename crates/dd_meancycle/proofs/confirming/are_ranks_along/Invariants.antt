use Rattle.std.proofs.Common.{take}
use Rattle.dd_meancycle.specs.table.Lists.{AreRanksAlong}
use Rattle.dd_meancycle.proofs.confirming.are_ranks_along.Given as goal

abbrev pub invariant-loop-edge : goal.invariant-loop-edge
invariant-loop-edge l = AreRanksAlong l.ranks (take l.edge-index l.edges)
