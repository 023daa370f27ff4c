use Rattle.std.proofs.Common.{length}
use Rattle.dd_question.proofs.tori.+greatest.Given as goal

abbrev pub decreases-greatest : goal.decreases-greatest
decreases-greatest l = length l.weights.now
