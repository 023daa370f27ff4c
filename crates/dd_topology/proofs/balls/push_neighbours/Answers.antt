use Rattle.std.proofs.{Common.arith, lemmas.Result.err_from_is_err_and}
use Rattle.dd_topology.specs.Balls.{beside}
use Rattle.dd_topology.proofs.GrowthLaws.{part_out_of_range, end_out_of_range, start_out_of_range}
use Rattle.dd_topology.proofs.balls.push_neighbours.Goals as goal

pub returns-in_err-push_end-clause-fault : goal.returns-in_err-push_end-clause-fault
returns-in_err-push_end-clause-fault c =
    let p = err_from_is_err_and c.from_residual.result c.from_residual.ensures.1 in
    rw (p.1, p.2) (λ range. part_out_of_range (beside c.args.cell.now) c.args.edges.now c.loop-edge.edge-index c.edge-item.result (omega arith) c.edge-item.is
    (end_out_of_range c.args.cell.now c.edge-item.result (c.in_err-push_end.ensures.fault range)))

pub returns-in_err-push_start-clause-fault : goal.returns-in_err-push_start-clause-fault
returns-in_err-push_start-clause-fault c =
    let p = err_from_is_err_and c.from_residual-in_err-push_start.result c.from_residual-in_err-push_start.ensures.1 in
    rw (p.1, p.2) (λ range. part_out_of_range (beside c.args.cell.now) c.args.edges.now c.loop-edge.edge-index c.edge-item.result (omega arith) c.edge-item.is
    (start_out_of_range c.args.cell.now c.edge-item.result (c.in_err-push_start.ensures.fault range)))
