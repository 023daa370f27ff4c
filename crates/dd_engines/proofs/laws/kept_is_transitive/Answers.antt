use Rattle.dd_engines.proofs.Keeping.{kept_kept}
use Rattle.dd_engines.proofs.laws.kept_is_transitive.Goals as goal

pub returns : goal.returns
returns c = kept_kept
