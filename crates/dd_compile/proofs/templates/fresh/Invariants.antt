use Rattle.std.proofs.Common.{◌≡◌, ◌+◌, ◌-◌, ◌++◌}
use Rattle.dd_compile.specs.ValueGates.{fresh}
use Rattle.dd_compile.proofs.templates.fresh.Given as goal

abbrev pub invariant-loop-number : goal.invariant-loop-number
invariant-loop-number l = fresh l.before l.count ≡ l.signals.items ++ fresh (l.before + l.number) (l.count - l.number)
