use Rattle.std.proofs.Common.{◌∙◌, ap, length, get_or, arith, max}
use Rattle.dd_lattice.specs.Cells.{shifted}
use Rattle.dd_formula.specs.LocalRule.{cells_at}
use Rattle.dd_numbered.specs.Numbering.{rank}
use Rattle.dd_rows.proofs.Steps.{greatest_next}
use Rattle.dd_rows.proofs.search.last_number.Goals as goal

pub loop-read-preserved : goal.loop-read-preserved
loop-read-preserved c =
    let cells = c.args.cells.now in
    let reads = cells_at c.args.rule.now c.args.cell.now.node in
    let value = c.reads-read-items.ensures.value in
    let i = c.loop-read.read-index in
    let d = c.read-item.result in
    let size = ap length value in
    greatest_next (λ e. rank cells (shifted c.args.cell.now.position e)) (rank cells c.args.cell.now) reads i d c.loop-read.last c.max-last.result
    (let test = c.loop-read-test.true in omega (arith, size, test)) c.loop-read.invariant (c.read-item.is ∙ ap (λ es. get_or es i d) value)
    (c.max-last.ensures ∙ ap (max c.loop-read.last) c.number_of_read.ensures)
