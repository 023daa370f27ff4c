use Rattle.std.proofs.Common.{◌≡◌, ◌+◌, ◌*◌, map, max, take}
use Rattle.dd_pattern.specs.Filling.{filling_look}
use Rattle.dd_formula.specs.Automata.{counted, value}
use Rattle.dd_formula.proofs.automaton.Automaton.+value.Given as goal

abbrev pub decreases-value_near : goal.decreases-value_near
decreases-value_near l = 3 * (counted l.self.now).depth

abbrev pub decreases-values_near : goal.decreases-values_near
decreases-values_near l = 3 * (counted l.self.now).depth + 1

abbrev pub decreases-composed_value : goal.decreases-composed_value
decreases-composed_value l = 3 * max (counted l.outer.now).depth (counted l.inner.now).depth + 2

abbrev pub invariant-values_near-loop-cell : goal.invariant-values_near-loop-cell
invariant-values_near-loop-cell l = l.values.items ≡ map (value l.self (filling_look l.near)) (take l.cell-index l.cells)
