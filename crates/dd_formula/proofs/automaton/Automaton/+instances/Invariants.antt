use Rattle.std.proofs.Common.{◌≡◌, ◌+◌, ◌*◌, map, max, take}
use Rattle.dd_expansion.specs.Leaves.{total}
use Rattle.dd_formula.specs.{Automata.counted, Counts.cut}
use Rattle.dd_formula.proofs.automaton.Automaton.+instances.Given as goal

abbrev pub decreases-instances : goal.decreases-instances
decreases-instances l = 3 * (counted l.self.now).depth

abbrev pub decreases-instances_from : goal.decreases-instances_from
decreases-instances_from l = 3 * (counted l.self.now).depth + 1

abbrev pub decreases-composed_instances : goal.decreases-composed_instances
decreases-composed_instances l = 3 * max (counted l.outer.now).depth (counted l.inner.now).depth + 2

abbrev pub invariant-instances_from-loop-cell : goal.invariant-instances_from-loop-cell
invariant-instances_from-loop-cell l = l.sum ≡ cut 20000 (total (map (λ c. (counted l.self).instances c.node) (take l.cell-index l.cells)))
