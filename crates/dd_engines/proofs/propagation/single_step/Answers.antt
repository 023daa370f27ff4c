use Rattle.dd_engines.proofs.Following.{settled_has_no_step}
use Rattle.dd_engines.proofs.propagation.single_step.Goals as goal

pub propagate-requires-clause-follows : goal.propagate-requires-clause-follows
propagate-requires-clause-follows c = c.in_ok-trail.ensures.follows _

pub returns-in_default : goal.returns-in_default
returns-in_default c =
    let settled = rw c.in_default.is at c.in_ok-conflict.ensures.passed in
    settled_has_no_step c.args.cnf.now c.propagate.new.trail.values.items settled
