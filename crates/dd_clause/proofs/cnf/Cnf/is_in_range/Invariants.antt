use Rattle.std.proofs.Common.{take}
use Rattle.dd_clause.specs.Clauses.{IsClauseInRange}
use Rattle.dd_clause.proofs.cnf.Cnf.is_in_range.Given as goal

abbrev pub invariant-loop-literal : goal.invariant-loop-literal
invariant-loop-literal l = IsClauseInRange l.self-inside.variables (take l.literal-index l.literal-items)
