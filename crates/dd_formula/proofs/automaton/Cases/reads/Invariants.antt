use Rattle.std.proofs.Common.{◌≡◌, ◌<◌, true, take}
use Rattle.std.specs.List.{list_all, flat_map}
use Rattle.dd_formula.specs.{LocalRule.cells_at, Automata.CommonNumbers, Automata.cases_fit, Automata.is_cell_of}
use Rattle.dd_formula.proofs.automaton.Cases.reads.Given as goal

abbrev pub invariant-loop-rule : goal.invariant-loop-rule
invariant-loop-rule l = record {
  list : l.found.items ≡ flat_map (λ case. cells_at case.0 l.node) (take l.rule-index l.self.cases);
  placed : (s : CommonNumbers) → cases_fit s l.self.cases l.self.otherwise ≡ true → l.node < s.nodes → list_all (is_cell_of s) l.found.items ≡ true;
}
