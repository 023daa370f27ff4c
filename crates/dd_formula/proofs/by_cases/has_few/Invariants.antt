use Rattle.std.proofs.Common.{◌≡◌, true}
use Rattle.dd_formula.specs.{Automata.is_few, ByCases.counts_over}
use Rattle.dd_formula.proofs.by_cases.has_few.Given as goal

abbrev pub invariant-loop-node : goal.invariant-loop-node
invariant-loop-node l = is_few l.node (counts_over l.topology l.sets l.cases) ≡ true
