use Rattle.std.proofs.{Common.arith, lemmas.Grind.elements}
use Rattle.dd_expansion.proofs.terms.ball_round.Goals as goal

pub returns-in-Some-clause-list : goal.returns-in-Some-clause-list
returns-in-Some-clause-list c = grind (arith, elements)
