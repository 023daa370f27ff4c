use Rattle.std.proofs.Common.{◌≡◌, ◌-◌}
use Rattle.dd_output.specs.reading.{Stops.many_at, Grammar.starred}
use Rattle.dd_output.proofs.Counts.{with_all}
use Rattle.dd_output.proofs.stars.patterns_of.Given as goal

abbrev pub invariant-loop : goal.invariant-loop
invariant-loop l = with_all l.patterns (many_at starred.read starred.least (l.count - l.counter) l.rest) ≡ many_at starred.read starred.least l.count l.bytes
