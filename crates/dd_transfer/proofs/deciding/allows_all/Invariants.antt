use Rattle.std.proofs.Common.{ℕ, ◌<◌}
use Rattle.dd_transfer.specs.placing.Formulas.{AllowsEach}
use Rattle.dd_transfer.proofs.deciding.allows_all.Given as goal

abbrev pub invariant-loop-node : goal.invariant-loop-node
invariant-loop-node l = (a : ℕ) → a < l.node → AllowsEach l.rule a
