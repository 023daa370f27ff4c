use Rattle.std.proofs.Common.{◌≡◌, ◌+◌, ◌*◌, map, take}
use Rattle.dd_expansion.specs.Leaves.{total}
use Rattle.dd_formula.specs.{Automata.counted, Counts.cut, ValueCounts.value_clauses}
use Rattle.dd_counts.proofs.values.+value_clauses.Given as goal

abbrev pub decreases-value_clauses : goal.decreases-value_clauses
decreases-value_clauses l = 2 * (counted l.automaton.now).depth

abbrev pub decreases-value_clauses_from : goal.decreases-value_clauses_from
decreases-value_clauses_from l = 2 * (counted l.automaton.now).depth + 1

abbrev pub invariant-value_clauses_from-loop-cell : goal.invariant-value_clauses_from-loop-cell
invariant-value_clauses_from-loop-cell l = l.sum ≡ cut l.limit (total (map (λ c. value_clauses l.symbols l.automaton c.node) (take l.cell-index l.cells)))
