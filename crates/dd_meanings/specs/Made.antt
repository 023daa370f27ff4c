-- Rules and automata over a script's topology, its symbols, and the symbols that each node allows.
use Rattle.std.specs.{Prelude.ℕ, Prelude.◌≡◌, Prelude.List, Prelude.◌++◌, Prelude.length, Prelude.map, List.All}
use Rattle.dd_expansion.specs.Limits.{IsFormula}
use Rattle.dd_formula.specs.LocalRule.{LocalRule, local_rule, IsRule}
use Rattle.dd_formula.specs.{Automata.CommonNumbers as Numbers, Automata.IsAutomaton, declared.automaton.Automaton.Automaton}
use Rattle.dd_formula.specs.declared.automaton.Automaton.{TheFolds.fold-Automaton, TheOpen.Automaton-F}
use Rattle.dd_meanings.specs.Tree.{Setting}

-- the dimension, the number of nodes and the number of symbols that a script's rules, automata and configurations share
abbrev pub script_numbers : Setting → Numbers
script_numbers s = record { dimension = s.topology.dimension; nodes = s.topology.nodes; symbols = length s.symbols }

-- a well-formed rule over the script's topology, its symbols, and the sets of symbols that its nodes allow
pub record IsRuleOf (s : Setting) (r : LocalRule) : Type 0 where
  pub rule : IsRule r
  pub dimension : r.dimension ≡ s.topology.dimension
  pub nodes : r.nodes ≡ s.topology.nodes
  pub symbols : r.symbols ≡ length s.symbols
  pub edges : r.edges ≡ s.topology.edges
  pub allowed : r.allowed ≡ s.sets.allowed
  pub formula : IsFormula s.topology s.sets.symbols r.formula

-- the rules in an automaton: those of its cases or, if it is a composition, those in both its parts
abbrev pub rules_step : Automaton-F (List LocalRule) → List LocalRule
rules_step (Automaton-F.Given c) = map (λ case. case.0) c.cases
rules_step (Automaton-F.Composed f g) = f ++ g

abbrev pub rules_in : Automaton → List LocalRule
rules_in = fold-Automaton (List LocalRule) rules_step

-- the rule is made from its formula, over the script's topology and the symbols that its nodes allow
pub record IsMadeOver (s : Setting) (r : LocalRule) : Type 0 where
  pub same : r ≡ local_rule s.topology s.sets r.formula
  pub formula : IsFormula s.topology s.sets.symbols r.formula

-- a well-formed automaton with the script's dimension, nodes and symbols; each rule in it is made over the script's topology and the symbols that
-- its nodes allow
pub record IsAutomatonOf (s : Setting) (f : Automaton) : Type 0 where
  pub automaton : IsAutomaton (script_numbers s) f
  pub rules : All (IsMadeOver s) (rules_in f)

-- there are as many items as names, and P holds of each item
pub record AreNamed {X : Type 0} (P : X → Type 0) (names : List (List ℕ)) (xs : List X) : Type 0 where
  pub named : length xs ≡ length names
  pub each : All P xs
