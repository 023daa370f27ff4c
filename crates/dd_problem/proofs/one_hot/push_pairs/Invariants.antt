use Rattle.std.proofs.Common.{◌≡◌, ◌++◌}
use Rattle.dd_problem.specs.{Clauses.pairs, lemmas.RangesLeft.range_to}
use Rattle.dd_problem.proofs.one_hot.push_pairs.Given as goal

abbrev pub invariant-loop-first : goal.invariant-loop-first
invariant-loop-first l = record {
  variables : l.cnf.variables ≡ l.initial.cnf.variables;
  clauses : l.initial.cnf.clauses ++ pairs (range_to l.from l.end) ≡ l.cnf.clauses ++ pairs (range_to l.first l.end);
}
