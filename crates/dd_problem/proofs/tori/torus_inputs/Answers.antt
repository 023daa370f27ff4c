use Rattle.std.proofs.Common.{◌≡◌, subst}
use Rattle.std.specs.Prelude.{IfOk}
use Rattle.dd_compile.specs.Wiring.{Wiring}
use Rattle.dd_boxes.specs.Views.{goal_of}
use Rattle.dd_problem.proofs.TorusCalls.{near_are, near_in_order, near_nodes_there, nodes_there, numbers_few, wires_are}
use Rattle.dd_problem.proofs.Templating.{torus_near}
use Rattle.dd_problem.proofs.tori.torus_inputs.Goals as goal

pub near_cells-requires-clause-nodes : goal.near_cells-requires-clause-nodes
near_cells-requires-clause-nodes c = nodes_there c.args.premise.now c.args.periods.now c.symbols-symbols.ensures.kept c.requires.periods c.args.cells.now c.requires.cells

pub near_cells-requires-clause-near : goal.near_cells-requires-clause-near
near_cells-requires-clause-near c = torus_near c.args.premise.now c.args.periods.now c.args.cells.now c.symbols-symbols.ensures.kept c.requires.periods c.requires.cells

pub inputs_by_number-requires-clause-ascending : goal.inputs_by_number-requires-clause-ascending
inputs_by_number-requires-clause-ascending c =
    let near =
    near_are c.args.premise.now c.args.periods.now c.symbols-symbols.ensures.kept c.requires.periods (goal_of c.args.premise.now c.args.goal.now) c.requires.goal
    c.in_ok-near.near.items c.deref.result.now c.args.cells.now c.in_ok-near.ensures c.deref.ensures.value c.requires.cells in
    near_in_order c.args.premise.now c.args.periods.now c.symbols-symbols.ensures.kept c.requires.periods (goal_of c.args.premise.now c.args.goal.now) c.requires.goal
    c.deref.result.now near

pub inputs_by_number-requires-clause-nodes : goal.inputs_by_number-requires-clause-nodes
inputs_by_number-requires-clause-nodes c =
    let near =
    near_are c.args.premise.now c.args.periods.now c.symbols-symbols.ensures.kept c.requires.periods (goal_of c.args.premise.now c.args.goal.now) c.requires.goal
    c.in_ok-near.near.items c.deref.result.now c.args.cells.now c.in_ok-near.ensures c.deref.ensures.value c.requires.cells in
    near_nodes_there c.args.premise.now c.args.periods.now c.symbols-symbols.ensures.kept c.requires.periods (goal_of c.args.premise.now c.args.goal.now) c.requires.goal
    c.deref.result.now c.in_ok-numbers.numbers near c.in_ok-numbers.ensures

pub inputs_by_number-requires-clause-few : goal.inputs_by_number-requires-clause-few
inputs_by_number-requires-clause-few c =
    let near =
    near_are c.args.premise.now c.args.periods.now c.symbols-symbols.ensures.kept c.requires.periods (goal_of c.args.premise.now c.args.goal.now) c.requires.goal
    c.in_ok-near.near.items c.deref.result.now c.args.cells.now c.in_ok-near.ensures c.deref.ensures.value c.requires.cells in
    numbers_few c.args.premise.now c.args.periods.now c.symbols-symbols.ensures.kept c.requires.periods (goal_of c.args.premise.now c.args.goal.now) c.requires.goal
    c.deref.result.now c.in_ok-numbers.numbers c.symbols-symbols.result near c.in_ok-numbers.ensures c.symbols-symbols.ensures.value

pub returns : goal.returns
returns c =
    let near =
    near_are c.args.premise.now c.args.periods.now c.symbols-symbols.ensures.kept c.requires.periods (goal_of c.args.premise.now c.args.goal.now) c.requires.goal
    c.in_ok-near.near.items c.deref.result.now c.args.cells.now c.in_ok-near.ensures c.deref.ensures.value c.requires.cells in
    let same =
    wires_are c.args.premise.now c.args.periods.now c.symbols-symbols.ensures.kept c.requires.periods (goal_of c.args.premise.now c.args.goal.now) c.requires.goal
    c.symbols-symbols.result c.in_ok-numbers.numbers c.deref.result.now c.symbols-symbols.ensures.value c.in_ok-numbers.ensures near in
    subst (λ (w : Wiring). IfOk c.inputs_by_number.result (λ inputs. inputs ≡ w)) same c.inputs_by_number.ensures
