use Rattle.std.proofs.{Common.◌++◌, Common.ap, Common.sym, Common.◌∙◌, Common.arith, lemmas.Grind.elements}
use Rattle.dd_topology.specs.Topology.{start_of}
use Rattle.dd_topology.proofs.GrowthLaws.{other_end, other_in_range}
use Rattle.dd_topology.proofs.balls.push_start.Goals as goal

pub returns-clause-cells : goal.returns-clause-cells
returns-clause-cells c =
    let edge = c.args.edge.now in
    let cell = c.args.cell.now in
    c.in_ok-push.ensures.items
    ∙ ap (λ l. c.args.reached.now.items ++ l) (other_end edge.to cell.node (start_of cell edge) c.in-Some.start c.if-edge-cell.false (sym c.in-Some.is ∙ c.start_of.ensures))

pub returns-clause-in_range : goal.returns-clause-in_range
returns-clause-in_range c =
    let edge = c.args.edge.now in
    let cell = c.args.cell.now in
    other_in_range edge.to cell.node (start_of cell edge) c.in-Some.start c.if-edge-cell.false (sym c.in-Some.is ∙ c.start_of.ensures)

pub returns-in_default-clause-fault : goal.returns-in_default-clause-fault
returns-in_default-clause-fault c = grind (arith, elements)
