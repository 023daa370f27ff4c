use Rattle.std.proofs.Common.{length}
use Rattle.dd_minimal.proofs.agreement.+agrees.Given as goal

abbrev pub decreases-agrees : goal.decreases-agrees
decreases-agrees l = length l.pattern.now
