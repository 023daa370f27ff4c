use Rattle.std.specs.Prelude.{IsTrue, ◌↔◌}
use Rattle.dd_examples.specs.Checked.{AreRightTo}
use Rattle.dd_examples.proofs.checking.are_right.Given as goal

abbrev pub invariant-loop-done : goal.invariant-loop-done
invariant-loop-done l = record {
  so_far : IsTrue l.all ↔ AreRightTo l.script l.answers l.done;
}
