use Rattle.std.proofs.Common.{◌≡◌, take}
use Rattle.std.specs.List.{fold}
use Rattle.dd_meancycle.specs.table.Levels.{relaxed}
use Rattle.dd_meancycle.proofs.levels.relax_all.Given as goal

abbrev pub invariant-loop-edge : goal.invariant-loop-edge
invariant-loop-edge l = l.row ≡ fold (relaxed l.previous) l.initial.row (take l.edge-index l.edges)
