use Rattle.std.proofs.{Common.arith, lemmas.Result.err_from_is_err_and}
use Rattle.dd_topology.specs.Balls.{neighbours}
use Rattle.dd_topology.proofs.GrowthLaws.{part_out_of_range}
use Rattle.dd_topology.proofs.balls.neighbours_of.Goals as goal

pub returns-in_err-push_neighbours-clause-fault : goal.returns-in_err-push_neighbours-clause-fault
returns-in_err-push_neighbours-clause-fault c =
    let p = err_from_is_err_and c.from_residual.result c.from_residual.ensures.1 in
    rw (p.1, p.2) (λ range. part_out_of_range (neighbours c.args.edges.now) c.args.cells.now c.loop-cell.cell-index c.cell-item.result (omega arith) c.cell-item.is (c.in_err-push_neighbours.ensures.fault range))
