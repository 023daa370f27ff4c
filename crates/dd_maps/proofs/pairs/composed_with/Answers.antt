use Rattle.std.proofs.Common.{subst}
use Rattle.dd_formula.specs.{Automata.IsAutomaton, Compositions.OverBoth, Compositions.IsCompositionFault, Compositions.composition}
use Rattle.dd_formula.specs.declared.automaton.Automaton.TheVariants.{Composed}
use Rattle.dd_maps.proofs.pairs.composed_with.Goals as goal

pub returns-in-Ok-clause-formed : goal.returns-in-Ok-clause-formed
returns-in-Ok-clause-formed c = subst (λ h. OverBoth c.args.outer h (λ s. IsAutomaton s (Composed c.args.outer h))) c.in_ok-inner.ensures c.in-Ok.ensures.formed

pub returns-clause-fault : goal.returns-clause-fault
returns-clause-fault c = subst (λ h. OverBoth c.args.outer h (λ s. IsCompositionFault s.nodes (composition c.args.outer h) c.in-Err.fault)) c.in_ok-inner.ensures c.in-Err.ensures.fault
