use Rattle.std.proofs.Common.{◌≡◌, ◌+◌, length}
use Rattle.dd_meancycle.specs.table.Levels.{AreRows}
use Rattle.dd_meancycle.proofs.levels.levels.Given as goal

abbrev pub invariant-loop-k : goal.invariant-loop-k
invariant-loop-k l = record { len : length l.levels.items ≡ l.k + 1; rows : AreRows l.edges l.states l.levels.items }
