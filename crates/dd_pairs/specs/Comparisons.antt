-- Comparisons: the parts of a query about an image or a conjugacy. Each becomes a question about one pair of automata.
use Rattle.dd_boxes.specs.{Goals.GoalOf, Goals.differ, Views.numbers_of}
use Rattle.dd_known.specs.declared.known.Setting.{Setting}
use Rattle.dd_formula.specs.{LocalRule.LocalRule, Automata.IsAutomaton, ByCases.numbers_over, Values.IsPlaced, declared.automaton.Automaton.Automaton}
use Rattle.dd_formula.specs.declared.automaton.Automaton.TheVariants.{Composed}
use Rattle.dd_compile.specs.Valued.{SaysItsValue}
use Rattle.dd_maps.specs.Pairs.{marked, always_zero, identity}
use Rattle.dd_meanings.specs.Made.{IsRuleOf, IsAutomatonOf}
use Rattle.dd_pairs.specs.declared.pair.Pair.{Pair}

-- a question about the configurations that obey a rule, the premise
pub data ComparisonOf : Type 0 where
  -- in the image of a configuration under the automaton, can the second rule be false at a cell, or can a cell have a symbol that its node doesn't
  -- allow?
  image : LocalRule → Automaton → LocalRule → ComparisonOf
  -- can a configuration change if the second automaton is applied to it, and then the first?
  change : LocalRule → Automaton → Automaton → ComparisonOf

-- the rule that the configurations obey
abbrev pub premise : ComparisonOf → LocalRule
premise (image x f y) = x
premise (change x f g) = x

-- the comparison has well-formed rules and automata over the script's topology, its symbols, and the symbols that its nodes allow
abbrev pub IsComparisonOf : Setting → ComparisonOf → Type 0
IsComparisonOf s (image x f y) = IsRuleOf s x × IsAutomatonOf s f × IsRuleOf s y
IsComparisonOf s (change x f g) = IsRuleOf s x × IsAutomatonOf s f × IsAutomatonOf s g

-- The pair of a comparison. For an image, the two automata of the pair differ exactly at the cells at which the second rule is false in the image or
-- the image has a symbol that isn't allowed. The left automaton applies the comparison's automaton, and then `marked` of the second rule. So it gives
-- 0 at the cells at which the second rule is true in the image and the image has an allowed symbol, and 1 at all others. The right automaton always
-- gives 0. In the case of `change`, the two automata differ exactly at the cells whose symbol changes. The left automaton applies the second
-- automaton of the comparison and then the first. The right automaton leaves each symbol as it is.
abbrev pub pair_of : Setting → ComparisonOf → Pair
pair_of s (image x f y) = record { left = Composed (marked s.topology s.sets y) f; right = always_zero s.topology s.sets }
pair_of s (change x f g) = record { left = Composed f g; right = identity s.topology s.sets }

-- the automaton reads only cells of the lattice, and the gates compiled for its value compute that value
pub record HasGates (f : Automaton) : Type 0 where
  pub placed : IsPlaced f
  pub says : SaysItsValue f

-- `HasGates` holds for both automata of the pair
pub record HaveGates (p : Pair) : Type 0 where
  pub left : HasGates p.left
  pub right : HasGates p.right

-- both automata are well formed, have the script's dimension and its numbers of nodes and symbols, and have gates as in `HasGates`
pub record IsPair (s : Setting) (p : Pair) : Type 0 where
  pub left : IsAutomaton (numbers_over s.topology s.sets) p.left
  pub right : IsAutomaton (numbers_over s.topology s.sets) p.right
  pub gates : HaveGates p

-- the goal that the two automata differ, for a question whose premise is x
abbrev pub difference : LocalRule → Pair → GoalOf
difference x p = differ (numbers_of x) p.left p.right

abbrev pub goal_of : Setting → ComparisonOf → GoalOf
goal_of s c = difference (premise c) (pair_of s c)
