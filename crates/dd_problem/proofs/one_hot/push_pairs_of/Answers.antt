use Rattle.std.proofs.Common.{◌∙◌, ◌++◌, ◌∷◌, [], map, false}
use Rattle.dd_cnf.specs.Encoding.{literal}
use Rattle.dd_problem.specs.lemmas.RangesLeft.{range_to, pair_step}
use Rattle.dd_problem.proofs.one_hot.push_pairs_of.Goals as goal

pub loop-other-preserved : goal.loop-other-preserved
loop-other-preserved c = record {
  variables = c.in_ok-push_clause.ensures.variables ∙ c.loop-other.invariant.variables;
  clauses =
      pair_step c.args.first (c.args.cnf.now.clauses ++ map (λ w. literal c.args.first false ∷ literal w false ∷ []) (range_to c.args.from c.args.end))
      c.loop-other.cnf.clauses c.push_clause.new.cnf.clauses c.negative.result c.negative-in-loop-other.result c.loop-other.other c.args.end c.loop-other-test.true
      c.loop-other.invariant.clauses c.negative.ensures c.negative-in-loop-other.ensures c.in_ok-push_clause.ensures.ok;
}
