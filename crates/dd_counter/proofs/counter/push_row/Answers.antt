use Rattle.std.specs.Prelude.{◌^◌}
use Rattle.dd_counter.specs.{Counter.count, lemmas.Left.left_few, lemmas.Left.left_one}
use Rattle.dd_counter.proofs.counter.push_row.Goals as goal

pub push_count-requires-clause-few : goal.push_count-requires-clause-few
push_count-requires-clause-few c =
    left_few (count c.args.weights.now c.args.number c.args.before.now) c.loop-most.most c.args.below c.args.cnf.now c.loop-most.cnf c.loop-most.signals.items (2 ^ 24) c.loop-most.invariant
    c.loop-most-test.true c.requires.few

pub loop-most-preserved : goal.loop-most-preserved
loop-most-preserved c =
    left_one (count c.args.weights.now c.args.number c.args.before.now) c.loop-most.most c.args.below c.args.cnf.now c.loop-most.cnf c.push_count.new.cnf c.loop-most.signals.items
    c.push.new.self.items c.in_ok-signal.signal c.loop-most.invariant c.loop-most-test.true c.in_ok-signal.ensures.clauses c.in_ok-signal.ensures.signal c.in_ok-signal.ensures.in_range
    c.in_ok-push.ensures.items
