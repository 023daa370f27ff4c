-- Literals, clauses, lists of clauses, and what it means to satisfy a list of clauses.
use Rattle.std.specs.Prelude.{◌≡◌, ℕ, ◌≤◌, Bool, true, not, if◌then◌else◌, List, All}
use Rattle.std.specs.List.{list_any}
use Rattle.dd_clause.specs.declared.clause.Literal.{Literal}

-- the literal's variable is one of 1..n
abbrev pub IsLiteralInRange : ℕ → Literal → Type 0
IsLiteralInRange n l = (1 ≤ l.variable) × (l.variable ≤ n)

-- each variable of the clause is one of 1..n
abbrev pub IsClauseInRange : ℕ → List Literal → Type 0
IsClauseInRange n clause = All (IsLiteralInRange n) clause

-- the negation of a literal: the same variable with the opposite sign
abbrev pub negation : Literal → Literal
negation l = record { variable = l.variable; positive = not l.positive }

-- Whether the literal is true if exactly the variables in the set are true. A positive literal is true if its variable is in the set, and a negative
-- one if its variable isn't.
abbrev pub is_true_under : (ℕ → Bool) → Literal → Bool
is_true_under set l = if l.positive then set l.variable else not (set l.variable)

-- some literal of the clause is true
abbrev pub is_clause_true : (ℕ → Bool) → List Literal → Bool
is_clause_true set clause = list_any (is_true_under set) clause

-- the set of true variables satisfies the clauses: each clause has a true literal
abbrev pub Satisfies : (ℕ → Bool) → List (List Literal) → Type 0
Satisfies set clauses = All (λ clause. is_clause_true set clause ≡ true) clauses

-- how many variables there are, and a list of clauses
pub record ClauseList : Type 0 where
  pub variables : ℕ
  pub clauses : List (List Literal)
