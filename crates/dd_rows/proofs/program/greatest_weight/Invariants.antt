use Rattle.std.proofs.Common.{◌≡◌, take}
use Rattle.dd_expansion.specs.Limits.{greatest}
use Rattle.dd_rows.proofs.program.greatest_weight.Given as goal

abbrev pub invariant-loop-weight : goal.invariant-loop-weight
invariant-loop-weight l = l.most ≡ greatest (take l.weight-index l.weights)
