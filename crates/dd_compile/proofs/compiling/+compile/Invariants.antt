use Rattle.std.proofs.Common.{◌+◌, ◌*◌}
use Rattle.dd_expansion.specs.Leaves.{instances}
use Rattle.dd_compile.specs.{Compiling.wires_near, lemmas.Layers.all_instances, lemmas.Progress.Progress}
use Rattle.dd_compile.proofs.compiling.+compile.Given as goal

abbrev pub decreases-compile_expanded : goal.decreases-compile_expanded
decreases-compile_expanded l = 2 * instances l.expanded.now

abbrev pub decreases-compile_all : goal.decreases-compile_all
decreases-compile_all l = 2 * all_instances l.parts.now + 1

abbrev pub invariant-compile_all-loop-part : goal.invariant-compile_all-loop-part
invariant-compile_all-loop-part l = Progress (wires_near l.inputs l.at) l.parts l.part-index l.initial.circuit l.circuit l.signals.items
