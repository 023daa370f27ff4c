use Rattle.std.proofs.Common.{◌≡◌, ◌++◌, drop}
use Rattle.dd_compile.specs.ValueGates.{giving}
use Rattle.dd_compile.proofs.values.giving.Given as goal

abbrev pub invariant-loop-number : goal.invariant-loop-number
invariant-loop-number l = giving l.symbol l.given l.chosen ≡ l.members.items ++ giving l.symbol (drop l.number l.given) (drop l.number l.chosen)
