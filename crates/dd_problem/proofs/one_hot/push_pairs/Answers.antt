use Rattle.std.proofs.Common.{◌∙◌, ◌++◌}
use Rattle.dd_problem.specs.{Clauses.pairs, lemmas.RangesLeft.range_to, lemmas.RangesLeft.pairs_step}
use Rattle.dd_problem.proofs.one_hot.push_pairs.Goals as goal

pub loop-first-preserved : goal.loop-first-preserved
loop-first-preserved c = record {
  variables = c.in_ok-push_pairs_of.ensures.variables ∙ c.loop-first.invariant.variables;
  clauses =
      pairs_step (c.args.cnf.now.clauses ++ pairs (range_to c.args.from c.args.end)) c.loop-first.cnf.clauses c.push_pairs_of.new.cnf.clauses c.loop-first.first c.args.end
      c.loop-first-test.true c.loop-first.invariant.clauses c.in_ok-push_pairs_of.ensures.ok;
}
