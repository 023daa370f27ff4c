use Rattle.dd_engines.proofs.Keeping.{first_after}
use Rattle.dd_engines.proofs.laws.first_asked_earlier.Goals as goal

pub returns : goal.returns
returns c = first_after
