use Rattle.std.proofs.Common.{◌≡◌, take, drop, ◌++◌}
use Rattle.dd_simplex.specs.table.Lines.{less, do_all_less_fit}
use Rattle.dd_simplex.proofs.line.subtract.Given as goal

-- The cells before i are done. The whole test has the same value as the test of the remaining cells. The whole result consists of the done cells,
-- followed by the result for the remaining cells.
abbrev pub invariant-loop-i : goal.invariant-loop-i
invariant-loop-i l = record {
  fits : do_all_less_fit l.factor l.initial.cells l.others ≡ do_all_less_fit l.factor (drop l.i l.cells) (drop l.i l.others);
  whole : less l.factor l.initial.cells l.others ≡ take l.i l.cells ++ less l.factor (drop l.i l.cells) (drop l.i l.others);
}
