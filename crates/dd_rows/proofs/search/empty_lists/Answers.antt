use Rattle.std.proofs.Common.{[]}
use Rattle.dd_rows.specs.listing.Levels.{chosen}
use Rattle.dd_rows.proofs.Collected.{range_next}
use Rattle.dd_rows.proofs.search.empty_lists.Goals as goal

pub loop-number-preserved : goal.loop-number-preserved
loop-number-preserved c = range_next (chosen [] []) c.loop-number._number c.loop-number.lists.items c.push.new.self.items c.new.result c.loop-number.invariant c.new.ensures c.in_ok-push.ensures.items
