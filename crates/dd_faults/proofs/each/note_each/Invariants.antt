use Rattle.std.proofs.Common.{◌≡◌, take}
use Rattle.std.specs.List.{flat_map}
use Rattle.dd_faults.specs.Order.{noted}
use Rattle.dd_faults.proofs.each.note_each.Given as goal

abbrev pub invariant-loop-item : goal.invariant-loop-item
invariant-loop-item g l = l.found ≡ noted l.fn.found (flat_map (g.N.Notes.faults l.notes) (take l.item-index l.items))
