use Rattle.dd_engines.proofs.Keeping.{kept_from_round}
use Rattle.dd_engines.proofs.laws.rounds_keep.Goals as goal

pub returns : goal.returns
returns c = kept_from_round
