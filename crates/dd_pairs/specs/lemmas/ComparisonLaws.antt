-- Comparisons of a script's rules and automata: `dd_maps` accepts these rules and automata, and the goal of each comparison fits its premise.
use Rattle.std.proofs.Common.{◌≡◌, ℕ, List, Bool, refl, sym, subst, ◌∙◌}
use Rattle.dd_topology.specs.declared.edge.Edge.{Edge}
use Rattle.dd_boxes.specs.{Goals.IsGoalFor, Views.numbers_of}
use Rattle.dd_known.specs.{Sound.IsSetting, declared.known.Setting.Setting}
use Rattle.dd_formula.specs.{LocalRule.LocalRule, Automata.IsAutomaton, ByCases.numbers_over, declared.automaton.Automaton.Automaton}
use Rattle.dd_maps.specs.Pairs.{IsRuleOver}
use Rattle.dd_meanings.specs.Made.{IsRuleOf, IsAutomatonOf}
use Rattle.dd_question.specs.Questions.{box, IsFormed}
use Rattle.dd_pairs.specs.declared.pair.Pair.{Pair}
use Rattle.dd_pairs.specs.Comparisons.{ComparisonOf, image, change, premise, pair_of, goal_of, IsComparisonOf, IsPair, difference}

-- a rule is determined by its fields
with_parts : (r : LocalRule) (d n k : ℕ) (allowed : List (List Bool)) (es : List Edge) → r.dimension ≡ d → r.nodes ≡ n → r.symbols ≡ k → r.allowed ≡ allowed → r.edges ≡ es
    → r ≡ record { dimension = d; nodes = n; symbols = k; allowed = allowed; edges = es; formula = r.formula }
with_parts r d n k allowed es hd hn hk ha he = rw (← hd, ← hn, ← hk, ← ha, ← he) refl

module _ (s : Setting) (sound : IsSetting s) where
  pub rule_over : (r : LocalRule) → IsRuleOf s r → IsRuleOver s.topology s.sets r
  rule_over r of = record {
    same = with_parts r _ _ _ _ _ of.dimension of.nodes (of.symbols ∙ sym sound.alphabet) of.allowed of.edges;
    formula = of.formula;
  }

  pub automaton_over : (f : Automaton) → IsAutomatonOf s f → IsAutomaton (numbers_over s.topology s.sets) f
  automaton_over f of =
      subst (λ (n : ℕ). IsAutomaton (record { dimension = s.topology.dimension; nodes = s.topology.nodes; symbols = n }) f) (sym sound.alphabet) of.automaton

  same_numbers : (r : LocalRule) → IsRuleOf s r → numbers_over s.topology s.sets ≡ numbers_of r
  same_numbers r of = rw (of.dimension, of.nodes, of.symbols, sound.alphabet) refl

  pub is_rule : (c : ComparisonOf) → IsComparisonOf s c → IsRuleOf s (premise c)
  is_rule (image x f y) of = of.0
  is_rule (change x f g) of = of.0

  -- The pair's automata have the script's dimension, nodes and symbols. So the goal that they differ fits the premise.
  pub is_goal : (c : ComparisonOf) (q : Pair) → IsComparisonOf s c → IsPair s q → IsGoalFor (premise c) (difference (premise c) q)
  is_goal c q of pair =
      let same = same_numbers (premise c) (is_rule c of) in
      record {
        dimension = refl;
        nodes = refl;
        symbols = refl;
        left = subst (λ n. IsAutomaton n q.left) same pair.left;
        right = subst (λ n. IsAutomaton n q.right) same pair.right;
      }

  -- the question of the comparison is well formed
  pub comparison_fits : (c : ComparisonOf) → IsComparisonOf s c → IsPair s (pair_of s c) → IsFormed (box (premise c) (goal_of s c))
  comparison_fits c of pair = ((is_rule c of).rule, is_goal c (pair_of s c) of pair, tt)
