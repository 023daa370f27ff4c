use Rattle.std.proofs.{Common.arith, lemmas.Grind.elements}
use Rattle.dd_discharge.proofs.check.is_certified.Goals as goal

pub returns-clause-yes : goal.returns-clause-yes
returns-clause-yes c = grind (arith, elements)
