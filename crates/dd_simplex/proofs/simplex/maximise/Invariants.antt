use Rattle.std.proofs.Common.{◌-◌}
use Rattle.dd_simplex.proofs.Running.{IsAlong}
use Rattle.dd_simplex.proofs.simplex.maximise.Given as goal

abbrev pub invariant-loop : goal.invariant-loop
invariant-loop l = IsAlong l.program l.pivots (l.pivots - l.counter) l.tableau
