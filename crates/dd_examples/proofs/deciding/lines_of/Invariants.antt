use Rattle.std.proofs.Common.{take}
use Rattle.dd_examples.specs.Lines.{AreLines}
use Rattle.dd_examples.proofs.deciding.lines_of.Given as goal

abbrev pub invariant-loop-done : goal.invariant-loop-done
invariant-loop-done l = record {
  lines : AreLines l.script 1 (take l.done l.queries) l.text.items;
}
