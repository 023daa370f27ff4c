use Rattle.std.proofs.Common.{◌≡◌, false, take}
use Rattle.dd_clause.specs.Clauses.{is_clause_true}
use Rattle.dd_values.specs.Variables.{true_variables}
use Rattle.dd_clause.proofs.assignment.has_true_literal.Given as goal

abbrev pub invariant-loop-literal : goal.invariant-loop-literal
invariant-loop-literal l = is_clause_true (true_variables l.values) (take l.literal-index l.literals) ≡ false
