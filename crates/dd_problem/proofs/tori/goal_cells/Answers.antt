use Rattle.std.proofs.Common.{◌≡◌, List, subst}
use Rattle.std.specs.Prelude.{IfOk}
use Rattle.dd_lattice.specs.declared.position.Cell.{Cell}
use Rattle.dd_boxes.specs.Views.{goal_of}
use Rattle.dd_problem.proofs.{NearCalls.box_there, NearCalls.box_is_few, NearCalls.box_is, TorusReach.facts_is_goal}
use Rattle.dd_problem.proofs.tori.goal_cells.Goals as goal

pub least_radius-requires : goal.least_radius-requires
least_radius-requires c = (c.args.premise.now, facts_is_goal c.args.premise.now (goal_of c.args.premise.now c.args.goal.now) c.requires)

pub unwrap-bounds-requires : goal.unwrap-bounds-requires
unwrap-bounds-requires c =
    let x = c.args.premise.now in
    let g = goal_of x c.args.goal.now in
    box_there x g c.nodes-nodes.ensures.kept c.requires c.in_ok-radius.radius c.dim.result c.nodes-nodes.result
    (c.in_ok-radius.ensures x c.nodes-nodes.ensures.kept (facts_is_goal x g c.requires)) c.dim.ensures c.nodes-nodes.ensures.value c.centred_box.result c.centred_box.ensures.value

pub cells_of-requires : goal.cells_of-requires
cells_of-requires c =
    let x = c.args.premise.now in
    let g = goal_of x c.args.goal.now in
    box_is_few x g c.nodes-nodes.ensures.kept c.requires c.in_ok-radius.radius c.dim.result c.nodes-nodes.result
    (c.in_ok-radius.ensures x c.nodes-nodes.ensures.kept (facts_is_goal x g c.requires)) c.dim.ensures c.nodes-nodes.ensures.value c.centred_box.result c.centred_box.ensures.value
    c.unwrap-bounds.result c.unwrap-bounds.ensures

pub returns : goal.returns
returns c =
    let x = c.args.premise.now in
    let g = goal_of x c.args.goal.now in
    let same =
    box_is x g c.nodes-nodes.ensures.kept c.requires c.in_ok-radius.radius c.dim.result c.nodes-nodes.result
    (c.in_ok-radius.ensures x c.nodes-nodes.ensures.kept (facts_is_goal x g c.requires)) c.dim.ensures c.nodes-nodes.ensures.value c.centred_box.result c.centred_box.ensures.value
    c.unwrap-bounds.result c.unwrap-bounds.ensures in
    subst (λ (cs : List Cell). IfOk c.cells_of.result (λ v. v.items ≡ cs)) same c.cells_of.ensures
