use Rattle.dd_evidence.proofs.Lists.{listed_break}
use Rattle.dd_evidence.proofs.laws.listed_break.Goals as goal

pub returns : goal.returns
returns c = listed_break
