use Rattle.std.proofs.Common.{take}
use Rattle.dd_meancycle.specs.table.Lists.{ArePotentialsAlong}
use Rattle.dd_meancycle.proofs.confirming.are_potentials_along.Given as goal

abbrev pub invariant-loop-edge : goal.invariant-loop-edge
invariant-loop-edge l = ArePotentialsAlong l.mean.weight l.mean.length l.potentials (take l.edge-index l.edges)
