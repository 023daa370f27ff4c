use Rattle.std.proofs.Common.{◌*◌, ◌^◌, ◌∙◌, length, ap, sym, subst}
use Rattle.dd_boxes.specs.Views.{goal_of}
use Rattle.dd_problem.specs.{Encodings.Encoding, pushing.Pushed.AreInputs}
use Rattle.dd_problem.proofs.Whole.{begins, places_room, goal_room, goal_there, whole}
use Rattle.dd_problem.proofs.problems.problem.Goals as goal

pub push_places-requires-clause-signals : goal.push_places-requires-clause-signals
push_places-requires-clause-signals c =
    let x = c.args.premise.now in
    let begin = begins c.args.inputs.now x (goal_of x c.args.goal.now) c.args.cells.now c.new-encoder.result c.new-cnf.result c.push_cells.new.cnf
    (c.new-cnf.ensures.variables ∙ ap (λ s. length c.args.cells.now * s) c.symbols.ensures.value) c.new-cnf.ensures.clauses c.in_ok-push_cells.ensures.variables c.in_ok-push_cells.ensures.ok c.new-encoder.ensures in
    subst (λ (e : Encoding). AreInputs e.circuit.inputs c.args.inputs.now) (sym begin) c.requires.signals

pub push_places-requires-clause-few : goal.push_places-requires-clause-few
push_places-requires-clause-few c =
    let x = c.args.premise.now in
    let g = goal_of x c.args.goal.now in
    let w = c.args.inputs.now in
    let cells = c.args.cells.now in
    let begin = begins w x g cells c.new-encoder.result c.new-cnf.result c.push_cells.new.cnf
    (c.new-cnf.ensures.variables ∙ ap (λ s. length c.args.cells.now * s) c.symbols.ensures.value) c.new-cnf.ensures.clauses c.in_ok-push_cells.ensures.variables c.in_ok-push_cells.ensures.ok c.new-encoder.ensures in
    places_room w x g cells c.new-encoder.result begin (2 ^ 24) c.requires.few

pub push_goal-requires-clause-wired : goal.push_goal-requires-clause-wired
push_goal-requires-clause-wired c =
    let x = c.args.premise.now in
    let g = goal_of x c.args.goal.now in
    let w = c.args.inputs.now in
    let cells = c.args.cells.now in
    let begin = begins w x g cells c.new-encoder.result c.new-cnf.result c.push_cells.new.cnf
    (c.new-cnf.ensures.variables ∙ ap (λ s. length c.args.cells.now * s) c.symbols.ensures.value) c.new-cnf.ensures.clauses c.in_ok-push_cells.ensures.variables c.in_ok-push_cells.ensures.ok c.new-encoder.ensures in
    goal_there w x g cells c.new-encoder.result begin c.push_places.new.encoder c.in_ok-push_places.ensures.ok c.requires.wired

pub push_goal-requires-clause-few : goal.push_goal-requires-clause-few
push_goal-requires-clause-few c =
    let x = c.args.premise.now in
    let g = goal_of x c.args.goal.now in
    let w = c.args.inputs.now in
    let cells = c.args.cells.now in
    let begin = begins w x g cells c.new-encoder.result c.new-cnf.result c.push_cells.new.cnf
    (c.new-cnf.ensures.variables ∙ ap (λ s. length c.args.cells.now * s) c.symbols.ensures.value) c.new-cnf.ensures.clauses c.in_ok-push_cells.ensures.variables c.in_ok-push_cells.ensures.ok c.new-encoder.ensures in
    goal_room w x g cells c.new-encoder.result begin c.push_places.new.encoder c.in_ok-push_places.ensures.ok (2 ^ 24) c.requires.few

pub returns : goal.returns
returns c =
    let x = c.args.premise.now in
    let g = goal_of x c.args.goal.now in
    let w = c.args.inputs.now in
    let cells = c.args.cells.now in
    let begin = begins w x g cells c.new-encoder.result c.new-cnf.result c.push_cells.new.cnf
    (c.new-cnf.ensures.variables ∙ ap (λ s. length c.args.cells.now * s) c.symbols.ensures.value) c.new-cnf.ensures.clauses c.in_ok-push_cells.ensures.variables c.in_ok-push_cells.ensures.ok c.new-encoder.ensures in
    whole w x g cells c.new-encoder.result begin c.push_places.new.encoder c.in_ok-push_places.ensures.ok c.push_goal.new.encoder c.into_cnf.result c.in_ok-push_goal.ensures.ok c.into_cnf.ensures
