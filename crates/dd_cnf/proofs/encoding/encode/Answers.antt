use Rattle.std.proofs.Common.{◌∙◌}
use Rattle.dd_cnf.specs.lemmas.ModelLaws.{has_models}
use Rattle.dd_cnf.proofs.encoding.encode.Goals as goal

pub returns-clause-models : goal.returns-clause-models
returns-clause-models c =
    has_models c.args.circuit.now c.new-cnf.result.clauses c.push_gates.new.cnf c.variables.ensures.in_range c.new-cnf.ensures.clauses
    (c.push_gates.ensures.variables ∙ (c.new-cnf.ensures.variables ∙ c.variables.ensures.value)) c.in_ok-push_gates.ensures.ok
