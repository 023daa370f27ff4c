-- Automata that are given by cases, made from formulas, and why they are refused.
use Rattle.std.specs.Prelude.{ℕ, ◌<◌, ◌≡◌, false, List, map}
use Rattle.dd_topology.specs.{Grid.Grid, Sets.SymbolSets}
use Rattle.dd_expansion.specs.{declared.formulas.Formula.Formula, Limits.IsFormula}
use Rattle.dd_formula.specs.LocalRule.{LocalRule, local_rule}
use Rattle.dd_formula.specs.Automata.{CommonNumbers, Counted, counted_step, is_few, is_short}
use Rattle.dd_formula.specs.{Compositions.PassesInstances, declared.automaton.Automaton.Automaton}
use Rattle.dd_formula.specs.declared.{automaton.Automaton.TheOpen.Automaton-F, fault.RuleFault.RuleFault}
use Rattle.dd_formula.specs.declared.fault.RuleFault.TheVariants.{Reach, Instances, Depth, Memory}
use Rattle.dd_formula.specs.declared.automaton.Automaton.TheVariants as v

-- the setting of a topology and an alphabet
abbrev pub numbers_over : Grid → SymbolSets → CommonNumbers
numbers_over g s = record { dimension = g.dimension; nodes = g.nodes; symbols = s.symbols }

-- a case is a formula over the topology and the alphabet, with a symbol of the alphabet
pub record IsCaseOver (g : Grid) (s : SymbolSets) (case : Formula × ℕ) : Type 0 where
  pub formula : IsFormula g s.symbols case.0
  pub symbol : case.1 < s.symbols

-- the case with its formula made into a rule
abbrev pub case_over : Grid → SymbolSets → Formula × ℕ → LocalRule × ℕ
case_over g s case = (local_rule g s case.0, case.1)

-- the automaton that gives a cell the symbol of the first case whose formula is true there, or the default symbol if there is no
-- such case
abbrev pub by_cases : Grid → SymbolSets → List (Formula × ℕ) → ℕ → Automaton
by_cases g s cases otherwise = v.Given (record { cases = map (case_over g s) cases; otherwise = otherwise })

-- the counts of this automaton, which don't depend on the default symbol
abbrev pub counts_over : Grid → SymbolSets → List (Formula × ℕ) → Counted
counts_over g s cases = counted_step (Automaton-F.Given (record { cases = map (case_over g s) cases; otherwise = 0 }))

-- Whether the fault is right. `Instances` is right if there are too many instances at some node. Otherwise `Reach` is right if a cell that is read
-- lies too far away. `Depth` is never right. `Memory` claims nothing about the automaton.
abbrev pub IsCasesRefusal : ℕ → Counted → RuleFault → Type 0
IsCasesRefusal n f Instances = is_few n f ≡ false
IsCasesRefusal n f Reach = PassesInstances n f × (is_short n f ≡ false)
IsCasesRefusal n f Depth = ⊥
IsCasesRefusal n f Memory = Unit {0}
