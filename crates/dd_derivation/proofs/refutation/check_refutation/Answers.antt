use Rattle.std.proofs.{Common.sym, Common.◌∙◌, Common.arith, lemmas.Grind.common_steps}
use Rattle.dd_derivation.specs.lemmas.Soundness.{refutes_sound}
use Rattle.dd_derivation.proofs.refutation.check_refutation.Goals as goal

pub returns-clause-sound : goal.returns-clause-sound
returns-clause-sound c r = refutes_sound c.args.cnf.now.variables c.args.cnf.now.clauses c.args.steps.now (sym c.check_with.ensures ∙ r)

pub returns-clause-same : goal.returns-clause-same
returns-clause-same c = grind (arith, common_steps)
