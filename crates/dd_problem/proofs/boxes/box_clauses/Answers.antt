use Rattle.std.proofs.{Common.length, Common.subst, Common.sym, Common.arith, lemmas.Grind.common_steps}
use Rattle.std.specs.List.{range_with_len}
use Rattle.dd_boxes.specs.{Cells.box_cells, Views.goal_of}
use Rattle.dd_problem.specs.pushing.Pushed.{HasAllSymbols}
use Rattle.dd_problem.proofs.Templating.{box_near, numbered_full}
use Rattle.dd_problem.proofs.BoxCalls.{box_there, cells_are, inputs_are, ascends, inputs_few, nodes_there, signals_there, goal_wired, variables_few, exactly, showing, deciding}
use Rattle.dd_problem.proofs.boxes.box_clauses.Goals as goal

pub unwrap-bounds-requires : goal.unwrap-bounds-requires
unwrap-bounds-requires c =
    box_there c.args.premise.now (goal_of c.args.premise.now c.args.goal.now) c.args.radius c.centred_box.result c.dim.result c.symbols-symbols.ensures.kept c.requires.few c.dim.ensures c.centred_box.ensures.value

pub inputs_in_turn-requires-clause-ascending : goal.inputs_in_turn-requires-clause-ascending
inputs_in_turn-requires-clause-ascending c =
    let x = c.args.premise.now in
    let g = goal_of x c.args.goal.now in
    let n = c.args.radius in
    let kept = c.symbols-symbols.ensures.kept in
    let first = cells_are x g n c.centred_box.result c.dim.result c.nodes.result c.unwrap-bounds.result c.in_ok-cells.cells.items c.deref.result.now
    kept c.requires.few c.dim.ensures c.centred_box.ensures.value c.unwrap-bounds.ensures c.nodes.ensures.value c.in_ok-cells.ensures c.deref.ensures.value in
    ascends x n c.deref.result.now kept first

pub inputs_in_turn-requires-clause-few : goal.inputs_in_turn-requires-clause-few
inputs_in_turn-requires-clause-few c =
    let x = c.args.premise.now in
    let g = goal_of x c.args.goal.now in
    let n = c.args.radius in
    let kept = c.symbols-symbols.ensures.kept in
    let first = cells_are x g n c.centred_box.result c.dim.result c.nodes.result c.unwrap-bounds.result c.in_ok-cells.cells.items c.deref.result.now
    kept c.requires.few c.dim.ensures c.centred_box.ensures.value c.unwrap-bounds.ensures c.nodes.ensures.value c.in_ok-cells.ensures c.deref.ensures.value in
    inputs_few x g n c.symbols-symbols.result c.deref.result.now c.requires.few c.symbols-symbols.ensures.value first

pub problem-requires : goal.problem-requires
problem-requires c =
    let x = c.args.premise.now in
    let g = goal_of x c.args.goal.now in
    let n = c.args.radius in
    let kept = c.symbols-symbols.ensures.kept in
    let first = cells_are x g n c.centred_box.result c.dim.result c.nodes.result c.unwrap-bounds.result c.in_ok-cells.cells.items c.deref.result.now
    kept c.requires.few c.dim.ensures c.centred_box.ensures.value c.unwrap-bounds.ensures c.nodes.ensures.value c.in_ok-cells.ensures c.deref.ensures.value in
    let second = cells_are x g n c.centred_box.result c.dim.result c.nodes.result c.unwrap-bounds.result c.in_ok-cells.cells.items c.deref-2.result.now
    kept c.requires.few c.dim.ensures c.centred_box.ensures.value c.unwrap-bounds.ensures c.nodes.ensures.value c.in_ok-cells.ensures c.deref-2.ensures.value in
    let cells = c.deref-2.result.now in
    let told = c.in_ok-inputs.inputs in
    let inputs = inputs_are x n c.symbols-symbols.result c.deref.result.now told c.in_ok-inputs.ensures c.symbols-symbols.ensures.value first in
    record {
      nodes = nodes_there x n cells second;
      near = box_near x g n cells kept c.requires.few second;
      signals = signals_there x n cells told inputs second;
      all = subst (HasAllSymbols x.symbols) (sym inputs) (numbered_full x.symbols (box_cells x n) (range_with_len 0 (length (box_cells x n))));
      goal = c.requires.goal;
      wired = goal_wired x g n cells told kept c.goal_facts.ensures c.requires.reaches c.requires.few inputs second;
      few = variables_few x g n cells told kept c.goal_facts.ensures c.requires.reaches c.requires.few inputs second;
    }

pub returns : goal.returns
returns c =
    let x = c.args.premise.now in
    let g = goal_of x c.args.goal.now in
    let n = c.args.radius in
    let kept = c.symbols-symbols.ensures.kept in
    let first = cells_are x g n c.centred_box.result c.dim.result c.nodes.result c.unwrap-bounds.result c.in_ok-cells.cells.items c.deref.result.now
    kept c.requires.few c.dim.ensures c.centred_box.ensures.value c.unwrap-bounds.ensures c.nodes.ensures.value c.in_ok-cells.ensures c.deref.ensures.value in
    let second = cells_are x g n c.centred_box.result c.dim.result c.nodes.result c.unwrap-bounds.result c.in_ok-cells.cells.items c.deref-2.result.now
    kept c.requires.few c.dim.ensures c.centred_box.ensures.value c.unwrap-bounds.ensures c.nodes.ensures.value c.in_ok-cells.ensures c.deref-2.ensures.value in
    let cells = c.deref-2.result.now in
    let told = c.in_ok-inputs.inputs in
    let inputs = inputs_are x n c.symbols-symbols.result c.deref.result.now told c.in_ok-inputs.ensures c.symbols-symbols.ensures.value first in
    record {
      exact = exactly x g n cells told kept c.goal_facts.ensures c.requires.reaches c.requires.few inputs second c.problem.result c.problem.ensures;
      shows = showing x g n cells told kept c.goal_facts.ensures c.requires.reaches c.requires.few inputs second c.problem.result c.problem.ensures;
      decides = deciding x g n cells told kept c.goal_facts.ensures c.requires.reaches c.requires.few inputs second c.problem.result c.problem.ensures;
    }

pub cells_of-requires : goal.cells_of-requires
cells_of-requires c = grind (arith, common_steps)
