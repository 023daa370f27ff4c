use Rattle.dd_formula.specs.lemmas.CompositionLaws.{composition_formed}
use Rattle.dd_formula.proofs.automaton.Automaton.composed.Goals as goal
use Rattle.dd_values.specs.lemmas.Results.{any_ok}

pub returns-in-Ok-clause-formed : goal.returns-in-Ok-clause-formed
returns-in-Ok-clause-formed c =
    any_ok c.joined.result _ (λ s outer inner. composition_formed s c.args.outer c.args.inner outer inner (c.in-Ok.ensures.ok s outer inner))
