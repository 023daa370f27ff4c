use Rattle.std.proofs.Common.{◌≡◌}
use Rattle.dd_pattern.specs.{Periods.periods_of, Weight.total_weight}
use Rattle.dd_counter.specs.Least.{IsLiving}
use Rattle.dd_counter.proofs.least.least_weight.Given as goal

abbrev pub invariant-loop-weight : goal.invariant-loop-weight
invariant-loop-weight l = record { lives : IsLiving l.rule (periods_of l.periods 0) l.found; weighs : l.weight ≡ total_weight l.weights l.found.symbols }

abbrev pub decreases-loop-weight : goal.decreases-loop-weight
decreases-loop-weight l = l.weight
