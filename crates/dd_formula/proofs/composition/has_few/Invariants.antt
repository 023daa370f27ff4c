use Rattle.std.proofs.Common.{◌≡◌, true}
use Rattle.dd_formula.specs.{Automata.is_few, Compositions.composition}
use Rattle.dd_formula.proofs.composition.has_few.Given as goal

abbrev pub invariant-loop-node : goal.invariant-loop-node
invariant-loop-node l = is_few l.node (composition l.outer l.inner) ≡ true
