use Rattle.std.proofs.Common.{◌≡◌, ◌+◌, ◌≤◌, ◌++◌, drop}
use Rattle.dd_solver.specs.searching.Marking.{numbers_from}
use Rattle.dd_solver.proofs.trimming.find_numbers.Given as goal

abbrev pub invariant-loop-is_marked : goal.invariant-loop-is_marked
invariant-loop-is_marked l = record {
  few : l.last ≤ l.clauses + l.is_marked-index;
  so_far : numbers_from l.clauses l.marked ≡ l.numbers.items ++ numbers_from l.last (drop l.is_marked-index l.marked);
}
