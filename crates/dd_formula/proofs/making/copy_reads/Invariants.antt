use Rattle.std.proofs.Common.{◌≡◌, take}
use Rattle.dd_formula.proofs.making.copy_reads.Given as goal

abbrev pub invariant-loop-cells : goal.invariant-loop-cells
invariant-loop-cells l = l.copies ≡ take l.cells-index l.reads
