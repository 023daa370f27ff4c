use Rattle.std.proofs.Common.{◌+◌, ◌*◌, max}
use Rattle.dd_formula.specs.Automata.{counted}
use Rattle.dd_compile.proofs.Composing.{Composing}
use Rattle.dd_compile.proofs.automata.+compile_near.Given as goal

abbrev pub decreases-compile_near : goal.decreases-compile_near
decreases-compile_near l = 3 * (counted l.automaton.now).depth

abbrev pub decreases-compile_inner : goal.decreases-compile_inner
decreases-compile_inner l = 3 * (counted l.automaton.now).depth + 1

abbrev pub decreases-compile_composed : goal.decreases-compile_composed
decreases-compile_composed l = 3 * max (counted l.outer.now).depth (counted l.inner.now).depth + 2

abbrev pub invariant-compile_inner-loop-cell : goal.invariant-compile_inner-loop-cell
invariant-compile_inner-loop-cell l = Composing l.symbols l.automaton l.inputs l.cells l.at l.cell-index l.initial.circuit l.circuit l.values
