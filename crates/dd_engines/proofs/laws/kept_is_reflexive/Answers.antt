use Rattle.dd_engines.proofs.Keeping.{kept_same}
use Rattle.dd_engines.proofs.laws.kept_is_reflexive.Goals as goal

pub returns : goal.returns
returns c = kept_same
