use Rattle.dd_lattice.specs.Cells.{cell}
use Rattle.dd_boxes.specs.Boxes.{origin}
use Rattle.dd_numbered.specs.Numbering.{rank}
use Rattle.dd_rows.proofs.Collected.{range_next}
use Rattle.dd_rows.proofs.views.centre.Goals as goal

pub loop-node-preserved : goal.loop-node-preserved
loop-node-preserved c =
    range_next (λ a. rank c.args.cells.now (cell origin a)) c.loop-node.node c.loop-node.numbers c.push.new.self c.rank.result
    c.loop-node.invariant c.rank.ensures.value c.in_ok-push.ensures.ok
