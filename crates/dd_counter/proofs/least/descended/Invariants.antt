use Rattle.std.proofs.Common.{◌≡◌, ◌-◌, Fits, w64}
use Rattle.dd_pattern.specs.{Periods.periods_of, Weight.total_weight}
use Rattle.dd_counter.specs.Least.{IsLiving}
use Rattle.dd_counter.proofs.least.descended.Given as goal

abbrev pub invariant-loop-alloc : goal.invariant-loop-alloc
invariant-loop-alloc l = record { lives : IsLiving l.rule (periods_of l.periods 0) l.best; weighs : l.weight ≡ total_weight l.weights l.best.symbols; fits : Fits w64 l.weight }

abbrev pub decreases-loop-alloc : goal.decreases-loop-alloc
decreases-loop-alloc l = l.weight - l.refuted
