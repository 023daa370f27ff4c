-- A walk through assignments. Each flip takes the first clause without a true literal, and makes one of its literals true.
use Rattle.std.specs.Prelude.{◌≡◌, ℕ, zero, suc, ◌+◌, ◌-◌, ◌%◌, ◌<◌, ◌≤◌, Bool, false, not, List, Option, Some, length, replicate, slice_get, slice_set}
use Rattle.std.specs.{List.find, Option.option_map, Option.option_and_then}
use Rattle.dd_clause.specs.{declared.clause.Literal.Literal, Clauses.ClauseList, Clauses.is_clause_true}
use Rattle.dd_values.specs.Variables.{true_variables}
use Rattle.dd_engines.specs.declared.engine.Proposal.{Proposal}
use Rattle.dd_engines.specs.declared.engine.Proposal.TheVariants.{Nothing, Found, Refutation}
use Rattle.dd_engines.specs.Proposals.{IsSatisfying}

-- the clause has no true literal
abbrev pub is_unsatisfied : List Bool → List Literal → Bool
is_unsatisfied values clause = not (is_clause_true (true_variables values) clause)

-- the first clause without a true literal, if there is one
abbrev pub first_unsatisfied : List Bool → List (List Literal) → Option (List Literal)
first_unsatisfied values clauses = find (is_unsatisfied values) clauses

-- the values after this literal is made true
abbrev pub made_true : List Bool → Literal → List Bool
made_true values l = slice_set values (l.variable - 1) l.positive

-- The values after flip number k, which takes this clause. Flips and places are counted from 0. The flip makes one literal of the clause true: the
-- literal at place k % length. An empty clause has no such literal, so there are no values after the flip.
abbrev pub flipped : ℕ → List Bool → List Literal → Option (List Bool)
flipped k values clause = option_map (made_true values) (slice_get clause (k % length clause))

-- The values after k flips, starting with all variables false. There are none if the walk ends before it has made k flips: it ends when each clause
-- has a true literal, or when a flip takes an empty clause.
abbrev pub values_after : ClauseList → ℕ → Option (List Bool)
values_after cnf zero = Some (replicate cnf.variables false)
values_after cnf (suc k) = option_and_then (λ values. option_and_then (flipped k values) (first_unsatisfied values cnf.clauses)) (values_after cnf k)

-- no values reached after fewer than this many flips satisfy the clauses
abbrev pub NoneBefore : ClauseList → ℕ → Type 0
NoneBefore cnf count = (k : ℕ) (values : List Bool) → k < count → values_after cnf k ≡ Some values → IsSatisfying cnf values → ⊥

-- the values are the first on the walk that satisfy the clauses, and are reached after at most this many flips
pub record IsFirstOnWalk (cnf : ClauseList) (flips : ℕ) (values : List Bool) : Type 0 where
  pub count : ℕ
  pub few : count ≤ flips
  pub reached : values_after cnf count ≡ Some values
  pub satisfying : IsSatisfying cnf values
  pub none_before : NoneBefore cnf count

-- the proposal is the first assignment on the walk, after at most this many flips, that satisfies the clauses; it is nothing if none does
abbrev pub ProposesFirst : ClauseList → ℕ → Proposal → Type 0
ProposesFirst cnf flips Nothing = NoneBefore cnf (flips + 1)
ProposesFirst cnf flips (Found values) = IsFirstOnWalk cnf flips values
ProposesFirst cnf flips (Refutation steps) = ⊥
