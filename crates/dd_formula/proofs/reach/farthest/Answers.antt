use Rattle.dd_formula.specs.lemmas.FarthestLaws.{cell_more}
use Rattle.dd_formula.proofs.reach.farthest.Goals as goal

pub loop-cell-preserved : goal.loop-cell-preserved
loop-cell-preserved c =
    cell_more c.args.cells.now c.loop-cell.cell-index c.loop-cell.greatest c.extent.result c.max-greatest.result c.cell-item.result c.loop-cell-test.true
    c.cell-item.is c.extent.ensures c.max-greatest.ensures c.loop-cell.invariant
