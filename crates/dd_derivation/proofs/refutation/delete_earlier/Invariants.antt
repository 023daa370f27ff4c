use Rattle.std.proofs.Common.{◌≡◌, List, drop}
use Rattle.dd_clause.specs.declared.clause.Literal.{Literal}
use Rattle.dd_derivation.specs.{Derivations.known_after_steps, checking.MarksOf.known_of}
use Rattle.dd_derivation.proofs.refutation.delete_earlier.Given as goal

abbrev pub invariant-loop-step : goal.invariant-loop-step
invariant-loop-step l = (cs : List (List Literal)) → known_after_steps (known_of cs l.initial.alive) l.steps ≡ known_after_steps (known_of cs l.alive) (drop l.step-index l.steps)
