use Rattle.std.proofs.Common.{length}
use Rattle.dd_expansion.proofs.terms.+walk.Given as goal

abbrev pub decreases-walk : goal.decreases-walk
decreases-walk l = length l.labels.now
