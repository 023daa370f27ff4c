-- Why a formula can't be made into a rule, or cases into an automaton. The case that a loop over the cases has reached, and the numbers of a rule over
-- a topology.
use Rattle.std.proofs.Common.{◌≡◌, ◌<◌, ◌≤◌, ℕ, true, false, List, length, get_or, refl, ap, ◌∙◌, subst, arith}
use Rattle.std.proofs.lemmas.Bool.{and_from, lt-leb, eq-eqb}
use Rattle.std.specs.{Prelude.nat_le, List.list_all}
use Rattle.dd_topology.specs.{Grid.Grid, Sets.SymbolSets}
use Rattle.dd_expansion.specs.{declared.formulas.Formula.Formula, Leaves.instances}
use Rattle.dd_formula.specs.LocalRule.{LocalRule, local_rule, expansion_at, reads_at, is_near, most_instances, IsSmall}
use Rattle.dd_formula.specs.{Automata.Counted, Automata.is_few, Automata.rule_has, Refusals.IsRuleRefusal, Compositions.IsCompositionFault}
use Rattle.dd_formula.specs.{ByCases.numbers_over, ByCases.IsCasesRefusal, declared.fault.RuleFault.RuleFault}
use Rattle.dd_formula.specs.declared.fault.RuleFault.TheVariants.{Reach, Instances, Depth, Memory}
use Rattle.dd_formula.specs.lemmas.CompositionLaws.{range_fails}

-- Suppose that at each node an automaton has at least as many instances as a rule, and reads too far away if the rule does. Suppose
-- also that the automaton is within the limit on instances if the rule is. Then the automaton is refused for each fault for which
-- the rule is refused.
module _ (r : LocalRule) (f : Counted) (large : (a : ℕ) → instances (expansion_at r a) ≤ f.instances a) (far : (a : ℕ) → list_all is_near (reads_at r a) ≡ false → list_all is_near (f.reads a) ≡ false) where
  pub refused : (e : RuleFault) → (IsSmall r → is_few r.nodes f ≡ true) → IsRuleRefusal r e → IsCasesRefusal r.nodes f e
  refused Instances few h = range_fails (λ a. nat_le (f.instances a) most_instances) r.nodes h.node h.exists (lt-leb _ _ (omega (arith, h.many, large h.node)))
  refused Reach few h = (few h.0, range_fails (λ a. list_all is_near (f.reads a)) r.nodes h.1.node h.1.exists (far h.1.node h.1.far))
  refused Depth few h = h
  refused Memory few h = tt

-- for the same counts, a fault that is right by `IsCasesRefusal` is also right by `IsCompositionFault`
pub as_composition_fault : (n : ℕ) (f : Counted) (e : RuleFault) → IsCasesRefusal n f e → IsCompositionFault n f e
as_composition_fault n f Instances h = h
as_composition_fault n f Reach h = h
as_composition_fault n f Depth h = absurd h
as_composition_fault n f Memory h = tt

-- the case that a loop over the cases has reached
pub record IsCase (cases : List (LocalRule × ℕ)) (i : ℕ) (case : LocalRule × ℕ) : Type 0 where
  pub is : case ≡ get_or cases i case
  pub below : i < length cases

pub case_of : (cases items : List (LocalRule × ℕ)) (i : ℕ) (case : LocalRule × ℕ) → items ≡ cases → case ≡ get_or items i case → i < length items → IsCase cases i case
case_of cases items i case same is below = record { is = is ∙ ap (λ xs. get_or xs i case) same; below = subst (λ xs. i < length xs) same below }

-- a rule over a topology and an alphabet has the numbers of their setting
pub has_numbers : (g : Grid) (s : SymbolSets) (f : Formula) → rule_has (numbers_over g s) (local_rule g s f) ≡ true
has_numbers g s f = and_from _ _ (and_from _ _ (eq-eqb g.dimension g.dimension refl) (eq-eqb g.nodes g.nodes refl)) (eq-eqb s.symbols s.symbols refl)
