use Rattle.std.proofs.Common.{◌≡◌, ◌+◌, true, take}
use Rattle.std.specs.List.{list_all}
use Rattle.dd_formula.specs.{LocalRule.is_near, Automata.case_instances, Automata.cases_reads, Counts.cut}
use Rattle.dd_formula.proofs.automaton.Cases.instances.Given as goal

abbrev pub invariant-loop-rule : goal.invariant-loop-rule
invariant-loop-rule l = record {
  count : l.sum ≡ cut 20000 (case_instances l.node (take l.rule-index l.self.cases) + 1);
  near : list_all is_near (cases_reads (take l.rule-index l.self.cases) l.node) ≡ true;
}
