use Rattle.std.proofs.{Common.arith, lemmas.Grind.elements}
use Rattle.dd_expansion.proofs.terms.cell_of.Goals as goal

pub returns-in-Some : goal.returns-in-Some
returns-in-Some c = grind (arith, elements)
