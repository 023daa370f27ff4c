use Rattle.std.proofs.Common.{◌≡◌}
use Rattle.dd_solver.specs.searching.Search.{left}
use Rattle.dd_solver.proofs.search.Search.settle.Given as goal

abbrev pub invariant-rounds : goal.invariant-rounds
invariant-rounds l = record {
  variables : l.self.variables ≡ l.fn.self.variables;
  clauses : l.self.clauses ≡ l.fn.self.clauses;
}

abbrev pub decreases-rounds : goal.decreases-rounds
decreases-rounds l = left l.self
