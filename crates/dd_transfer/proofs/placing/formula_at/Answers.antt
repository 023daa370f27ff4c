use Rattle.dd_transfer.proofs.Saying.{says_near_if}
use Rattle.dd_transfer.proofs.placing.formula_at.Goals as goal

pub returns : goal.returns
returns c = says_near_if c.args.rule.now c.args.strip c.args.at.now c.new.result c.expansion.result.now c.new-near.result c.expansion.ensures.truth c.new-near.ensures c.new.ensures.truth
