use Rattle.std.proofs.Common.{subst}
use Rattle.dd_formula.specs.{LocalRule.IsRule, lemmas.AllowedLaws.look_below}
use Rattle.dd_formula.proofs.rule.Rule.symbols.Goals as goal

pub returns-clause-allowed : goal.returns-clause-allowed
returns-clause-allowed c = λ look allowed. look_below c.args.self.now (subst IsRule c.self.view_is c.self.invariant.rule) look allowed
