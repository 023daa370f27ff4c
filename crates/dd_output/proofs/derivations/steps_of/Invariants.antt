use Rattle.std.proofs.Common.{◌≡◌, ◌-◌}
use Rattle.dd_output.specs.reading.{Stops.many_at, Grammar.step}
use Rattle.dd_output.proofs.Counts.{with_all}
use Rattle.dd_output.proofs.derivations.steps_of.Given as goal

abbrev pub invariant-loop : goal.invariant-loop
invariant-loop l = with_all l.steps (many_at step.read step.least (l.count - l.counter) l.rest) ≡ many_at step.read step.least l.count l.bytes
