use Rattle.std.proofs.Common.{take}
use Rattle.dd_solver.specs.searching.Analysis.{Grows, AreMarked}
use Rattle.dd_solver.proofs.analysis.mark_literals.Given as goal

abbrev pub invariant-loop-literal : goal.invariant-loop-literal
invariant-loop-literal l = record {
  grows : Grows l.initial.marked l.marked;
  marked : AreMarked l.marked (take l.literal-index l.literals);
}
