use Rattle.std.proofs.Common.{◌≡◌, ◌<◌, ℕ, true, take}
use Rattle.std.specs.List.{list_all}
use Rattle.dd_formula.specs.Automata.{CommonNumbers, cases_fit, cases_reads, is_cell_of}
use Rattle.dd_formula.proofs.automaton.Cases.reads_are_placed.Given as goal

abbrev pub invariant-loop-rule : goal.invariant-loop-rule
invariant-loop-rule l =
    (s : CommonNumbers) → cases_fit s l.self.cases l.self.otherwise ≡ true → (a : ℕ) → a < s.nodes → list_all (is_cell_of s) (cases_reads (take l.rule-index l.self.cases) a) ≡ true
