use Rattle.std.proofs.Common.{◌^◌, arith}
use Rattle.dd_problem.proofs.PlacesLeft.{places_step, places_few, places_done}
use Rattle.dd_problem.proofs.Templating.{node_there, node_template}
use Rattle.dd_problem.proofs.gates.push_places.Goals as goal

pub index-template-requires : goal.index-template-requires
index-template-requires c =
    let templates = c.in_ok-templates.templates in
    let there =
    node_there c.args.rule.now templates.items c.args.cells.now c.loop-cell.cell-index c.cell-item.result c.in_ok-templates.ensures c.requires.nodes c.loop-cell-test.true c.cell-item.is in
    omega (arith, there, templates.ok.0)

pub push_if_wired-requires-clause-template : goal.push_if_wired-requires-clause-template
push_if_wired-requires-clause-template c =
    node_template c.args.rule.now c.in_ok-templates.templates.items c.args.cells.now c.loop-cell.cell-index c.cell-item.result c.index-template.result.now c.in_ok-templates.ensures c.requires.nodes
    c.loop-cell-test.true c.cell-item.is c.index-template.ensures

pub push_if_wired-requires-clause-few : goal.push_if_wired-requires-clause-few
push_if_wired-requires-clause-few c =
    places_few c.args.inputs.now c.args.rule.now c.args.cells.now c.loop-cell.cell-index (2 ^ 24) c.args.encoder.now c.loop-cell.encoder c.cell-item.result c.loop-cell.invariant
    c.loop-cell-test.true c.cell-item.is c.requires.few

pub loop-cell-preserved : goal.loop-cell-preserved
loop-cell-preserved c =
    places_step c.args.inputs.now c.args.rule.now c.args.cells.now c.loop-cell.cell-index c.args.encoder.now c.loop-cell.encoder c.push_if_wired.new.encoder c.cell-item.result
    c.loop-cell.invariant c.loop-cell-test.true c.cell-item.is c.in_ok-push_if_wired.ensures.ok

pub returns-clause-ok : goal.returns-clause-ok
returns-clause-ok c =
    places_done c.args.inputs.now c.args.rule.now c.args.cells.now c.loop-cell.cell-index c.args.encoder.now c.loop-cell.encoder c.loop-cell.invariant c.loop-cell-test.false
