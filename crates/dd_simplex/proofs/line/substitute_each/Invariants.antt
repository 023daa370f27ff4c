use Rattle.std.proofs.Common.{◌≡◌, true, take, drop, ◌++◌}
use Rattle.std.specs.{Prelude.map, List.list_all}
use Rattle.dd_simplex.specs.table.Lines.{changed_line, does_changed_fit}
use Rattle.dd_simplex.proofs.line.substitute_each.Given as goal

abbrev pub invariant-loop-i : goal.invariant-loop-i
invariant-loop-i l = record {
  fits : list_all (does_changed_fit l.e l.pivot) (take l.i l.initial.lines) ≡ true;
  done : l.lines ≡ map (changed_line l.e l.pivot) (take l.i l.initial.lines) ++ drop l.i l.initial.lines;
}
