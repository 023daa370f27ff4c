use Rattle.std.proofs.Common.{◌≡◌, ◌++◌}
use Rattle.std.specs.{Prelude.not, List.filter, List.range_with_len}
use Rattle.dd_formula.specs.LocalRule.{rule_allows}
use Rattle.dd_problem.specs.Clauses.{none_of}
use Rattle.dd_problem.proofs.one_hot.push_disallowed.Given as goal

abbrev pub invariant-loop-symbol : goal.invariant-loop-symbol
invariant-loop-symbol l = record {
  variables : l.cnf.variables ≡ l.initial.cnf.variables;
  clauses : l.cnf.clauses ≡ l.initial.cnf.clauses ++ none_of l.premise.symbols l.number (filter (λ s. not (rule_allows l.premise l.node s)) (range_with_len 0 l.symbol));
}
