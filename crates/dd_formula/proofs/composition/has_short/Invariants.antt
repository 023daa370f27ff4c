use Rattle.std.proofs.Common.{◌≡◌, true}
use Rattle.dd_formula.specs.{Automata.is_short, Compositions.composition}
use Rattle.dd_formula.proofs.composition.has_short.Given as goal

abbrev pub invariant-loop-node : goal.invariant-loop-node
invariant-loop-node l = is_short l.node (composition l.outer l.inner) ≡ true
