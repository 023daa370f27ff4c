use Rattle.std.proofs.{Common.sym, Common.◌∙◌, Common.arith, lemmas.Grind.common_steps}
use Rattle.dd_derivation.specs.lemmas.Soundness.{derives_sound}
use Rattle.dd_derivation.proofs.refutation.check_derivation.Goals as goal

pub returns-clause-sound : goal.returns-clause-sound
returns-clause-sound c r = derives_sound c.args.cnf.now.variables c.args.cnf.now.clauses c.args.steps.now (sym c.check_each_with.ensures ∙ r)

pub returns-clause-same : goal.returns-clause-same
returns-clause-same c = grind (arith, common_steps)
