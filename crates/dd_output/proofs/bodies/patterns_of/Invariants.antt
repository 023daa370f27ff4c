use Rattle.std.proofs.Common.{◌≡◌, ◌-◌}
use Rattle.dd_output.specs.reading.{Stops.many_at, Grammar.pattern}
use Rattle.dd_output.proofs.Counts.{with_all}
use Rattle.dd_output.proofs.bodies.patterns_of.Given as goal

abbrev pub invariant-loop : goal.invariant-loop
invariant-loop l = with_all l.patterns (many_at pattern.read pattern.least (l.count - l.counter) l.rest) ≡ many_at pattern.read pattern.least l.count l.bytes
