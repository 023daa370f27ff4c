use Rattle.std.proofs.Common.{sym}
use Rattle.dd_pattern.specs.Periods.{periods_of}
use Rattle.dd_counter.specs.lemmas.{Light.least_shown, Rooms.room_at, Rooms.weights_known}
use Rattle.dd_counter.proofs.least.least_weight.Goals as goal

pub search_below-requires-clause-count : goal.search_below-requires-clause-count
search_below-requires-clause-count c =
    room_at c.args.rule.now (periods_of c.args.periods 0) c.args.weights.now c.loop-weight.found c.loop-weight.weight 2000000 c.loop-weight.invariant.lives c.loop-weight.invariant.weighs
    c.requires.count

pub weight-weight-requires-in-Found-2 : goal.weight-weight-requires-in-Found-2
weight-weight-requires-in-Found-2 c =
    let light = rw c.in-Found-2.is at c.in_ok-periodic-2.ensures in
    weights_known c.args.rule.now c.args.weights.now c.in-Found-2.periodic c.requires.weights c.requires.small light.witness

pub returns-in-Nothing-2 : goal.returns-in-Nothing-2
returns-in-Nothing-2 c =
    let none = rw c.in-Nothing-2.is at c.in_ok-periodic-2.ensures in
    least_shown c.args.rule.now (periods_of c.args.periods 0) c.args.weights.now c.loop-weight.weight c.loop-weight.found c.in-Nothing-2.steps c.loop-weight.invariant.lives
    (sym c.loop-weight.invariant.weighs) none.0 c.loop-weight-test.true none.1
