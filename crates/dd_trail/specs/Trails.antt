-- The trail of a search: the literals that are true, in the order in which they became true.
use Rattle.std.specs.Prelude.{◌≡◌, ℕ, ◌≤◌, true, false, List, map}
use Rattle.dd_clause.specs.{declared.clause.Literal.Literal, Clauses.negation}
use Rattle.dd_derivation.specs.Derivations.{has_variable}
use Rattle.dd_trail.specs.declared.trail.Entry.{Entry}

-- a trail: the number of variables, and the entries, oldest first
pub record EntryList : Type 0 where
  pub variables : ℕ
  pub entries : List Entry

-- the literals that are false: the negations of the entries' literals
abbrev pub falses : List Entry → List Literal
falses trail = map (λ e. negation e.literal) trail

-- the variable is one of 1..n, and has no value
abbrev pub IsFree : ℕ → List Entry → ℕ → Type 0
IsFree n trail v = (1 ≤ v) × (v ≤ n) × (has_variable v (falses trail) ≡ false)

-- each of the variables 1..n has a value
abbrev pub IsFull : ℕ → List Entry → Type 0
IsFull n trail = (v : ℕ) → 1 ≤ v → v ≤ n → has_variable v (falses trail) ≡ true
