-- Templates. Contracts see a template as a pair: a rule, and one of its nodes. The gates of a template are placed at one cell after another, and each
-- of these cells has this node.
use Rattle.std.specs.Prelude.{ℕ}
use Rattle.dd_formula.specs.LocalRule.{LocalRule}

-- a rule, and one of its nodes
pub record RuleAt : Type 0 where
  pub rule : LocalRule
  pub node : ℕ

abbrev pub rule_at : LocalRule → ℕ → RuleAt
rule_at r a = record { rule = r; node = a }
