-- Why a formula is refused as a rule.
use Rattle.dd_formula.specs.{LocalRule.LocalRule, LocalRule.IsSmall, LocalRule.IsLarge, LocalRule.IsFar, declared.fault.RuleFault.RuleFault}
use Rattle.dd_formula.specs.declared.fault.RuleFault.TheVariants.{Reach, Instances, Depth, Memory}

-- Whether the fault is right. `Instances` is right if there are too many instances at some node. Otherwise `Reach` is right if a cell that is read
-- lies too far away. `Depth` is never right. `Memory` claims nothing about the rule.
abbrev pub IsRuleRefusal : LocalRule → RuleFault → Type 0
IsRuleRefusal r Instances = IsLarge r
IsRuleRefusal r Reach = IsSmall r × IsFar r
IsRuleRefusal r Depth = ⊥
IsRuleRefusal r Memory = Unit {0}
