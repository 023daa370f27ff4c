-- When the outcome of a search is right.
use Rattle.std.specs.Prelude.{◌≡◌, ℕ, Bool, true, List, length}
use Rattle.dd_clause.specs.{declared.clause.Literal.Literal, Clauses.Satisfies}
use Rattle.dd_values.specs.Variables.{true_variables}
use Rattle.dd_derivation.specs.declared.step.Outcome.{Outcome}
use Rattle.dd_derivation.specs.{declared.step.Outcome.TheVariants.Found, declared.step.Outcome.TheVariants.Refuted, Derivations.refutes}

-- some assignment satisfies the clauses
abbrev pub IsSatisfiable : List (List Literal) → Type 0
IsSatisfiable clauses = (set : ℕ → Bool) × Satisfies set clauses

abbrev pub IsFound : Outcome → Type 0
IsFound (Found values) = Unit {0}
IsFound (Refuted steps) = ⊥

abbrev pub IsRefuted : Outcome → Type 0
IsRefuted (Found values) = ⊥
IsRefuted (Refuted steps) = Unit {0}

-- the outcome is right: values of the variables 1..n that make each clause true, or steps that refute the clauses
abbrev pub IsAnswer : ℕ → List (List Literal) → Outcome → Type 0
IsAnswer n clauses (Found values) = (length values ≡ n) × Satisfies (true_variables values) clauses
IsAnswer n clauses (Refuted steps) = refutes n clauses steps ≡ true
