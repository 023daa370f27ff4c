-- Refutations by a single step: those that unit propagation finds.
use Rattle.std.specs.Prelude.{◌≡◌, [], ◌∷◌}
use Rattle.dd_clause.specs.Clauses.{ClauseList}
use Rattle.dd_derivation.specs.{declared.step.Step.Step, Derivations.IsRefuting}
use Rattle.dd_engines.specs.declared.engine.Proposal.{Proposal}
use Rattle.dd_engines.specs.declared.engine.Proposal.TheVariants.{Nothing, Found, Refutation}

-- the step refutes the clauses by itself
abbrev pub IsSingleStep : ClauseList → Step → Type 0
IsSingleStep cnf step = IsRefuting cnf (step ∷ [])

-- the proposal is a single step that refutes the clauses, or nothing if there is no such step
abbrev pub ProposesSingleStep : ClauseList → Proposal → Type 0
ProposesSingleStep cnf Nothing = (step : Step) → IsSingleStep cnf step → ⊥
ProposesSingleStep cnf (Found values) = ⊥
ProposesSingleStep cnf (Refutation steps) = (step : Step) × ((steps ≡ step ∷ []) × IsSingleStep cnf step)
