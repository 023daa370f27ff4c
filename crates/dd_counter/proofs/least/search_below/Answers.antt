use Rattle.dd_values.specs.Variables.{true_variables}
use Rattle.dd_pattern.specs.Periods.{periods_of}
use Rattle.dd_counter.proofs.Light.{one_each, read_light}
use Rattle.dd_counter.proofs.least.search_below.Goals as goal

pub read_torus-requires-clause-one_each : goal.read_torus-requires-clause-one_each
read_torus-requires-clause-one_each c =
    let answer = rw c.in-Found.is at c.in_ok-found.ensures.answer in
    one_each c.args.rule.now (periods_of c.args.periods 0) c.args.weights.now c.args.below c.in_ok-cnf.cnf.clauses c.in_ok-cnf.ensures.shows (true_variables c.in-Found.found) answer.1

pub returns-in-Found : goal.returns-in-Found
returns-in-Found c =
    let answer = rw c.in-Found.is at c.in_ok-found.ensures.answer in
    let read = c.in_ok-periodic-in-Found.ensures in
    read_light c.args.rule.now (periods_of c.args.periods 0) c.args.weights.now c.args.below c.in_ok-cnf.cnf.clauses c.in_ok-cnf.ensures.shows (true_variables c.in-Found.found) answer.1
    c.in_ok-periodic-in-Found.periodic c.symbols-symbols.ensures.kept.tile read.periods read.fits read.only
