use Rattle.std.proofs.Common.{arith}
use Rattle.dd_pattern.specs.Periods.{periods_of}
use Rattle.dd_counter.specs.lemmas.{Counted.count_less, Rooms.room_at}
use Rattle.dd_counter.proofs.least.descended.Goals as goal

pub search_below-requires-clause-count : goal.search_below-requires-clause-count
search_below-requires-clause-count c =
    count_less c.args.rule.now (periods_of c.args.periods 0) c.args.weights.now c.max-below.result c.loop-alloc.weight 2000000 (grind arith)
    (room_at c.args.rule.now (periods_of c.args.periods 0) c.args.weights.now c.loop-alloc.best c.loop-alloc.weight 2000000 c.loop-alloc.invariant.lives c.loop-alloc.invariant.weighs
    c.requires.count)
