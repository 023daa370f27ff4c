use Rattle.std.proofs.{Common.arith, lemmas.Grind.common_steps}
use Rattle.dd_values.specs.Variables.{true_variables}
use Rattle.dd_boxes.specs.Views.{goal_of}
use Rattle.dd_problem.specs.lemmas.TorusSizes.{small_periods}
use Rattle.dd_contain.proofs.ShownLaws.{one_each, read_shows}
use Rattle.dd_contain.proofs.questions.BoxQuestionQuestions.configuration.Goals as goal

pub read_torus-requires-clause-one_each : goal.read_torus-requires-clause-one_each
read_torus-requires-clause-one_each g c =
    let answer = rw c.in-Found.is at c.in_ok-found.ensures.answer in
    one_each c.args.self.now.premise.now (goal_of c.args.self.now.premise.now c.args.self.now.goal.now) c.args.at.now c.in_ok-cnf.cnf.clauses c.in_ok-cnf.ensures.shows
    (true_variables c.in-Found.found) answer.1

pub returns-in-Found-clause-found : goal.returns-in-Found-clause-found
returns-in-Found-clause-found g c =
    let answer = rw c.in-Found.is at c.in_ok-found.ensures.answer in
    let read = c.in_ok-periodic-in-Found.ensures in
    let shown = read_shows c.args.self.now.premise.now (goal_of c.args.self.now.premise.now c.args.self.now.goal.now) c.args.at.now c.in_ok-cnf.cnf.clauses c.in_ok-cnf.ensures.shows
    (true_variables c.in-Found.found) answer.1 c.in_ok-periodic-in-Found.periodic c.symbols-symbols.ensures.kept.tile read.periods read.fits read.only in
    ((c.in_ok-periodic-in-Found.periodic, shown), shown)

pub read_torus-requires-clause-periods : goal.read_torus-requires-clause-periods
read_torus-requires-clause-periods g c = small_periods c.args.self.now.premise.now c.args.at.now c.nodes-nodes.ensures.kept c.requires.periods

pub torus_clauses-requires-clause-periods : goal.torus_clauses-requires-clause-periods
torus_clauses-requires-clause-periods g c = small_periods c.args.self.now.premise.now c.args.at.now c.nodes-nodes.ensures.kept c.requires.periods

pub returns-clause-found : goal.returns-clause-found
returns-clause-found c = grind (arith, common_steps)
