-- Other numbers for variables. The variables of the reduced list are numbered from 1. Each has a name: the number of the variable of the whole list
-- that it stands for.
use Rattle.std.specs.Prelude.{ℕ, zero, suc, ◌+◌, ◌^◌, ◌<◌, ◌≤◌, nat_lt, if◌then◌else◌, List, length, map, slice_index_or}
use Rattle.dd_clause.specs.declared.clause.Literal.{Literal}
use Rattle.dd_derivation.specs.declared.step.Step.{Step}

-- the names ascend, and are numbers from 1 to n
pub record AreNames (names : List ℕ) (n : ℕ) : Type 0 where
  pub ascend : (j k : ℕ) → j < k → k < length names → slice_index_or names j 0 < slice_index_or names k 0
  pub positive : (k : ℕ) → k < length names → 1 ≤ slice_index_or names k 0
  pub most : (k : ℕ) → k < length names → slice_index_or names k 0 ≤ n

-- The name of a variable. A number that isn't a variable of the reduced list gets a number that isn't a name, so that different numbers stay
-- different.
abbrev pub new_name : List ℕ → ℕ → ℕ
new_name names zero = 0
new_name names (suc k) = if nat_lt k (length names) then slice_index_or names k 0 else 2 ^ 32 + k

-- the literal with another number for its variable
abbrev pub renamed : (ℕ → ℕ) → Literal → Literal
renamed f l = record { variable = f l.variable; positive = l.positive }

-- the step with other numbers for the variables of its clause
abbrev pub renamed_step : (ℕ → ℕ) → Step → Step
renamed_step f s = record { clause = map (renamed f) s.clause; hints = s.hints; deletes = s.deletes }
