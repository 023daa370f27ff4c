use Rattle.dd_engines.proofs.Keeping.{kept_from_first}
use Rattle.dd_engines.proofs.laws.first_asked_keeps.Goals as goal

pub returns : goal.returns
returns c = kept_from_first
