use Rattle.std.proofs.Common.{take}
use Rattle.dd_clause.specs.Clauses.{Satisfies}
use Rattle.dd_values.specs.Variables.{true_variables}
use Rattle.dd_clause.proofs.assignment.satisfies.Given as goal

abbrev pub invariant-loop-clause : goal.invariant-loop-clause
invariant-loop-clause l = Satisfies (true_variables l.values) (take l.clause-index l.clause-items)
