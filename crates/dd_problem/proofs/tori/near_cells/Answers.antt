use Rattle.std.proofs.Common.{◌<◌, ◌≤◌, ◌∙◌}
use Rattle.dd_lattice.specs.declared.position.Cell.{Cell}
use Rattle.dd_topology.specs.Topology.{extent}
use Rattle.dd_boxes.specs.{Boxes.goal_reach, Cells.box_cells, Views.goal_of}
use Rattle.dd_problem.proofs.NearCalls.{reads_near, near_more, near_all, item_of}
use Rattle.dd_problem.proofs.tori.near_cells.Goals as goal

pub reads-requires : goal.reads-requires
reads-requires c =
    item_of (λ (d : Cell). d.node < c.args.premise.now.nodes) c.args.cells.now c.loop-cell.cell-index c.cell-item.result c.requires.nodes c.loop-cell-test.true c.cell-item.is

pub push_shifted-requires-clause-near : goal.push_shifted-requires-clause-near
push_shifted-requires-clause-near c =
    reads_near c.args.premise.now c.cell-item.result.node c.reads.result.now c.reads.ensures.kept
    (item_of (λ (d : Cell). d.node < c.args.premise.now.nodes) c.args.cells.now c.loop-cell.cell-index c.cell-item.result c.requires.nodes c.loop-cell-test.true c.cell-item.is)
    c.reads.ensures.value

pub push_shifted-requires-clause-by : goal.push_shifted-requires-clause-by
push_shifted-requires-clause-by c =
    item_of (λ (d : Cell). extent d.position ≤ 1048560) c.args.cells.now c.loop-cell.cell-index c.cell-item.result c.requires.near c.loop-cell-test.true c.cell-item.is

pub loop-cell-preserved : goal.loop-cell-preserved
loop-cell-preserved c =
    near_more c.args.premise.now (box_cells c.args.premise.now (goal_reach (goal_of c.args.premise.now c.args.goal.now))) c.loop-cell.found.items c.push_shifted.new.found.items c.reads.result.now
    c.args.cells.now c.loop-cell.cell-index c.cell-item.result c.loop-cell-test.true c.cell-item.is c.reads.ensures.value c.loop-cell.invariant c.in_ok-push_shifted.ensures

pub returns : goal.returns
returns c =
    c.once_each.ensures
    ∙ near_all c.args.premise.now (goal_of c.args.premise.now c.args.goal.now) c.loop-cell.found.items c.args.cells.now c.loop-cell.cell-index c.loop-cell-test.false c.loop-cell.invariant
