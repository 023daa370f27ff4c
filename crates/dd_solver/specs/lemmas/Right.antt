-- A right outcome is an assignment exactly when some assignment satisfies the clauses, and a refutation exactly when none does.
use Rattle.std.proofs.Common.{ℕ, List}
use Rattle.std.specs.Prelude.{◌↔◌}
use Rattle.dd_clause.specs.declared.clause.Literal.{Literal}
use Rattle.dd_values.specs.Variables.{true_variables}
use Rattle.dd_derivation.specs.declared.step.Outcome.{Outcome}
use Rattle.dd_derivation.specs.declared.step.Outcome.TheVariants.{Found, Refuted}
use Rattle.dd_derivation.specs.lemmas.Soundness.{refutes_sound}
use Rattle.dd_solver.specs.Answers.{IsSatisfiable, IsFound, IsRefuted, IsAnswer}

pub found_right : (n : ℕ) (clauses : List (List Literal)) (o : Outcome) → IsAnswer n clauses o → IsFound o ↔ IsSatisfiable clauses
found_right n clauses (Found values) a = (λ f. (true_variables values, a.1), λ s. tt)
found_right n clauses (Refuted steps) a = (λ f. absurd f, λ s. refutes_sound n clauses steps a s.0 s.1)

pub refuted_right : (n : ℕ) (clauses : List (List Literal)) (o : Outcome) → IsAnswer n clauses o → IsRefuted o ↔ ¬ (IsSatisfiable clauses)
refuted_right n clauses (Found values) a = (λ f. absurd f, λ u. u (true_variables values, a.1))
refuted_right n clauses (Refuted steps) a = (λ f. λ s. refutes_sound n clauses steps a s.0 s.1, λ u. tt)
