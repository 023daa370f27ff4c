use Rattle.std.proofs.Common.{◌≡◌, true, take, drop, ◌++◌}
use Rattle.std.specs.{Prelude.map, List.list_all}
use Rattle.dd_fraction.specs.{Exact.times, Exact.inverse, Checked.does_product_fit}
use Rattle.dd_simplex.proofs.line.divide.Given as goal

abbrev pub invariant-loop-i : goal.invariant-loop-i
invariant-loop-i l = record {
  fits : list_all (λ a. does_product_fit a (inverse l.by)) (take l.i l.initial.cells) ≡ true;
  done : l.cells ≡ map (λ a. times a (inverse l.by)) (take l.i l.initial.cells) ++ drop l.i l.initial.cells;
}
