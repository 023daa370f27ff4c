-- The first limit that rules and automata exceed.
use Rattle.std.proofs.Common.{◌≡◌, ◌≤◌, ◌<◌, ℕ, zero, suc, ◌+◌, Bool, true, [], refl, arith, nat_le}
use Rattle.std.proofs.lemmas.{Bool.le-leb, Grind.common_steps}
use Rattle.std.specs.List.{list_all, range_with_len}
use Rattle.dd_expansion.specs.Leaves.{instances}
use Rattle.dd_formula.specs.LocalRule.{LocalRule, most_instances, expansion_at, reads_at, is_near, IsSmall, IsRule}
use Rattle.dd_formula.specs.{Refusals.IsRuleRefusal, Compositions.IsCompositionFault, Automata.Counted, Automata.is_few}
use Rattle.dd_formula.specs.{declared.fault.RuleFault.RuleFault, lemmas.CasesLaws.refused, lemmas.CasesLaws.as_composition_fault}
use Rattle.dd_faults.specs.Order.{first_fault, Refuses}
use Rattle.dd_meanings.specs.Definitions.{rule_counts, count_faults, rule_faults, refusal_of}

-- a composition is refused for the first limit that its counts exceed, or because memory ran out
pub fault_refuses : (n : ℕ) (f : Counted) (e : RuleFault) → IsCompositionFault n f e → Refuses (refusal_of e) (first_fault (count_faults n f))
fault_refuses n f RuleFault.Instances h = grind (arith, common_steps)
fault_refuses n f RuleFault.Reach h = grind (arith, common_steps)
fault_refuses n f RuleFault.Depth h = grind (arith, common_steps)
fault_refuses n f RuleFault.Memory h = tt

-- ---- rules

range_from : (p : ℕ → Bool) (k n : ℕ) → ((a : ℕ) → k ≤ a → a < k + n → p a ≡ true) → list_all p (range_with_len k n) ≡ true
range_from p k zero each = refl
range_from p k (suc n) each = grind (arith, common_steps, each k, range_from p (k + 1) n)

module _ (r : LocalRule) where
  small_is_few : IsSmall r → is_few r.nodes (rule_counts r) ≡ true
  small_is_few h = range_from (λ a. nat_le (instances (expansion_at r a)) most_instances) 0 r.nodes (λ a low high. le-leb _ _ (h a (omega arith)))

  -- a rule is refused for the first limit that its counts exceed, or because memory ran out
  pub rule_refuses : (e : RuleFault) → IsRuleRefusal r e → Refuses (refusal_of e) (first_fault (rule_faults r))
  rule_refuses e h = fault_refuses r.nodes (rule_counts r) e (as_composition_fault r.nodes (rule_counts r) e (refused r (rule_counts r) (λ a. omega arith) (λ a far. far) e small_is_few h))

  pub rule_passes : IsRule r → rule_faults r ≡ []
  rule_passes h = rw (small_is_few h.small, range_from (λ a. list_all is_near (reads_at r a)) 0 r.nodes (λ a low high. h.short a (omega arith))) refl
