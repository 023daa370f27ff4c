use Rattle.std.proofs.{Common.arith, lemmas.Grind.elements}
use Rattle.dd_topology.proofs.sets.Sets.copy.Goals as goal

pub returns-clause-value : goal.returns-clause-value
returns-clause-value c = grind (arith, elements)

pub invariant_of-result : goal.invariant_of-result
invariant_of-result c = grind (arith, elements)
