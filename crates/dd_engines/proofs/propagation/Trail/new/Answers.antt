use Rattle.std.proofs.{Common.◌≡◌, Common.None, Common.arith, Math.ListN.replicate, lemmas.Grind.common_steps}
use Rattle.dd_engines.proofs.Following.{follows_from_nothing}
use Rattle.dd_engines.proofs.propagation.Trail.new.Goals as goal

pub returns-clause-follows : goal.returns-clause-follows
returns-clause-follows c clauses =
    let values : c.in_ok-vec.field-0.items ≡ replicate c.args.variables None = grind (arith, common_steps) in
    rw (c.new.ensures.items, values) (follows_from_nothing clauses c.args.variables)
