use Rattle.dd_meancycle.specs.table.Lists.{AreEdgesTo}
use Rattle.dd_meancycle.proofs.edges.edges.Given as goal

abbrev pub invariant-loop-number : goal.invariant-loop-number
invariant-loop-number l = AreEdgesTo l.graph l.number l.edges.items
