use Rattle.dd_counter.proofs.Whole.{no_refusal}
use Rattle.dd_counter.proofs.counter.push_refusal.Goals as goal

pub returns-in-None-clause-ok : goal.returns-in-None-clause-ok
returns-in-None-clause-ok c =
    no_refusal c.args.signals.now c.args.below c.saturating_sub-at.result c.args.cnf.now.clauses c.saturating_sub-at.ensures c.in-None.ensures.lookup.3
