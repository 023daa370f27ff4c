use Rattle.dd_rows.specs.listing.Levels.{last_number}
use Rattle.dd_rows.proofs.Steps.{map_next}
use Rattle.dd_rows.proofs.search.last_numbers.Goals as goal

pub loop-cell-preserved : goal.loop-cell-preserved
loop-cell-preserved c =
    map_next (last_number c.args.rule.now c.args.cells.now) c.args.cells.now c.loop-cell.cell-index c.cell-item.result c.loop-cell.numbers.items c.push.new.self.items c.last_number.result
    c.loop-cell-test.true c.loop-cell.invariant c.cell-item.is c.last_number.ensures c.in_ok-push.ensures.items
