use Rattle.dd_rows.proofs.Steps.{cells_next}
use Rattle.dd_rows.proofs.domain.cells_on.Goals as goal

pub loop-node-preserved : goal.loop-node-preserved
loop-node-preserved c =
    cells_next c.loop-position.cells c.loop-node.cells c.push.new.self c.position-item.result c.loop-node.node c.loop-node.invariant c.in_ok-push.ensures.ok
