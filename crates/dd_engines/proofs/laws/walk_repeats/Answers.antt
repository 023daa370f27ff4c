use Rattle.dd_engines.proofs.Repeating.{same_later, none_later}
use Rattle.dd_engines.proofs.laws.walk_repeats.Goals as goal

pub returns-clause-same : goal.returns-clause-same
returns-clause-same c = same_later

pub returns-clause-none : goal.returns-clause-none
returns-clause-none c = none_later
