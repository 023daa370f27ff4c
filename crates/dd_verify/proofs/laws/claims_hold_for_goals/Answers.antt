use Rattle.dd_verify.proofs.Facts.{claims_by_facts}
use Rattle.dd_verify.proofs.laws.claims_hold_for_goals.Goals as goal

pub returns : goal.returns
returns c = claims_by_facts
