use Rattle.dd_lattice.specs.Cells.{shifted}
use Rattle.dd_numbered.specs.Numbering.{rank}
use Rattle.dd_rows.proofs.Collected.{mapped_next}
use Rattle.dd_rows.proofs.views.view.Goals as goal

pub loop-cell-preserved : goal.loop-cell-preserved
loop-cell-preserved c =
    mapped_next (λ d. rank c.args.cells.now (shifted c.args.at.now d)) c.args.boxed.now c.loop-cell.cell-index c.cell-item.result c.loop-cell.numbers c.push.new.self c.number_of_read.result
    c.loop-cell-test.true c.loop-cell.invariant c.cell-item.is c.number_of_read.ensures c.in_ok-push.ensures.ok
