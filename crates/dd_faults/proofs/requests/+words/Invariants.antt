use Rattle.std.proofs.Common.{length}
use Rattle.dd_faults.proofs.requests.+words.Given as goal

abbrev pub decreases-words : goal.decreases-words
decreases-words l = length l.roles.now
