use Rattle.std.proofs.{Common.arith, lemmas.Grind.elements}
use Rattle.dd_pattern.proofs.periodic.PeriodicReads.symbol.Goals as goal

pub returns-then-cell-self : goal.returns-then-cell-self
returns-then-cell-self c = grind (arith, elements)
