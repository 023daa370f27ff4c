use Rattle.dd_formula.specs.Automata.{counted}
use Rattle.dd_automaton.proofs.image.+apply.Given as goal

abbrev pub decreases-apply : goal.decreases-apply
decreases-apply l = (counted l.automaton.now).depth
