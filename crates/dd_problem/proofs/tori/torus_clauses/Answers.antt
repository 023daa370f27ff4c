use Rattle.std.proofs.Common.{map, subst, sym, arith}
use Rattle.dd_problem.specs.{pushing.Near.near_cells, pushing.Near.number_at, pushing.Near.numbered_tile, Layouts.torus_cells}
use Rattle.dd_problem.specs.{pushing.Pushed.HasAllSymbols, lemmas.TorusSizes.torus_sizes}
use Rattle.dd_problem.proofs.Templating.{numbered_full, torus_near}
use Rattle.dd_problem.proofs.TorusCalls.{cells_few, cells_are, nodes_there, signals_there, goal_wired, variables_few, exactly, showing}
use Rattle.dd_pattern.specs.Periods.{periods_of}
use Rattle.dd_boxes.specs.Views.{goal_of}
use Rattle.dd_problem.proofs.tori.torus_clauses.Goals as goal

pub fundamental-requires-clause-x : goal.fundamental-requires-clause-x
fundamental-requires-clause-x c =
    let some = c.requires.periods.periods.x_some in
    let most = (torus_sizes c.args.premise.now (periods_of c.args.periods c.args.shear) c.nodes-nodes.ensures.kept c.requires.periods).x_most in
    (omega (arith, some), omega (arith, most))

pub fundamental-requires-clause-y : goal.fundamental-requires-clause-y
fundamental-requires-clause-y c =
    let some = c.requires.periods.periods.y_some in
    let most = (torus_sizes c.args.premise.now (periods_of c.args.periods c.args.shear) c.nodes-nodes.ensures.kept c.requires.periods).y_most in
    (omega (arith, some), omega (arith, most))

pub fundamental-requires-clause-z : goal.fundamental-requires-clause-z
fundamental-requires-clause-z c =
    let some = c.requires.periods.periods.z_some in
    let most = (torus_sizes c.args.premise.now (periods_of c.args.periods c.args.shear) c.nodes-nodes.ensures.kept c.requires.periods).z_most in
    (omega (arith, some), omega (arith, most))

pub cells_of-requires : goal.cells_of-requires
cells_of-requires c =
    cells_few c.args.premise.now (periods_of c.args.periods c.args.shear) c.nodes-nodes.ensures.kept c.requires.periods c.nodes-nodes.result c.fundamental.result
    c.nodes-nodes.ensures.value c.fundamental.ensures

pub torus_inputs-requires-clause-cells : goal.torus_inputs-requires-clause-cells
torus_inputs-requires-clause-cells c =
    cells_are c.args.premise.now (periods_of c.args.periods c.args.shear) c.nodes-nodes.ensures.kept c.requires.periods c.nodes-nodes.result c.fundamental.result
    c.in_ok-cells.cells.items c.deref.result.now c.nodes-nodes.ensures.value c.fundamental.ensures c.in_ok-cells.ensures c.deref.ensures.value

pub problem-requires : goal.problem-requires
problem-requires c =
    let x = c.args.premise.now in
    let p = periods_of c.args.periods c.args.shear in
    let g = goal_of x c.args.goal.now in
    let kept = c.nodes-nodes.ensures.kept in
    let places = c.deref-2.result.now in
    let cells =
    cells_are x p kept c.requires.periods c.nodes-nodes.result c.fundamental.result
    c.in_ok-cells.cells.items places c.nodes-nodes.ensures.value c.fundamental.ensures c.in_ok-cells.ensures c.deref-2.ensures.value in
    let near = near_cells x g (torus_cells x p) in
    record {
      nodes = nodes_there x p kept c.requires.periods places cells;
      near = torus_near x p places kept c.requires.periods cells;
      signals = signals_there x p kept c.requires.periods g c.goal_facts.ensures places c.in_ok-inputs.inputs c.in_ok-inputs.ensures cells;
      all = subst (HasAllSymbols x.symbols) (sym c.in_ok-inputs.ensures) (numbered_full x.symbols near (map (number_at (numbered_tile x p)) near));
      goal = c.requires.goal;
      wired = goal_wired x p kept c.requires.periods g c.goal_facts.ensures places c.in_ok-inputs.inputs c.in_ok-inputs.ensures cells;
      few = variables_few x p kept c.requires.periods g c.goal_facts.ensures places c.in_ok-inputs.inputs c.in_ok-inputs.ensures cells c.requires.few;
    }

pub returns : goal.returns
returns c =
    let x = c.args.premise.now in
    let p = periods_of c.args.periods c.args.shear in
    let g = goal_of x c.args.goal.now in
    let kept = c.nodes-nodes.ensures.kept in
    let places = c.deref-2.result.now in
    let cells =
    cells_are x p kept c.requires.periods c.nodes-nodes.result c.fundamental.result
    c.in_ok-cells.cells.items places c.nodes-nodes.ensures.value c.fundamental.ensures c.in_ok-cells.ensures c.deref-2.ensures.value in
    record {
      exact = exactly x p kept c.requires.periods g c.goal_facts.ensures places c.in_ok-inputs.inputs c.in_ok-inputs.ensures cells c.problem.result c.problem.ensures;
      shows = showing x p kept c.requires.periods g c.goal_facts.ensures places c.in_ok-inputs.inputs c.in_ok-inputs.ensures cells c.problem.result c.problem.ensures;
    }
