-- How many variables, and how many clauses and steps together, a check has room for, and bounds on these numbers.
use Rattle.std.specs.Prelude.{ℕ, ◌≤◌, ◌+◌, ◌-◌, ◌^◌, List, length}
use Rattle.dd_values.specs.Bounds.{most_variables}
use Rattle.dd_clause.specs.Clauses.{ClauseList}
use Rattle.dd_derivation.specs.declared.step.Step.{Step}

-- the sizes of a check's memory: it has a mark for each variable, and a truth value for each clause and each step; there are `variables` marks and
-- `numbers` truth values
pub record Sizes : Type 0 where
  pub variables : ℕ
  pub numbers : ℕ

-- there are at most 2^24 variables, and the numbers of all clauses and steps fit in 64 bits
pub record AreNumbered (clauses : ClauseList) (steps : List Step) : Type 0 where
  pub variables : clauses.variables ≤ most_variables
  pub numbers : length clauses.clauses + length steps ≤ 2 ^ 64 - 1
