use Rattle.std.proofs.Common.{◌≡◌, ◌^◌}
use Rattle.dd_formula.specs.Counts.{cut}
use Rattle.dd_formula.proofs.counts.power.Given as goal

abbrev pub invariant-loop : goal.invariant-loop
invariant-loop l = l.value ≡ cut l.limit (l.base ^ l.counter)
