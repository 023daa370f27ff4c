use Rattle.std.proofs.Common.{◌≡◌, ◌-◌}
use Rattle.dd_output.specs.reading.{Stops.many_at, Grammar.refutation}
use Rattle.dd_output.proofs.Counts.{with_all}
use Rattle.dd_output.proofs.conjugacies.refutations_of.Given as goal

abbrev pub invariant-loop : goal.invariant-loop
invariant-loop l = with_all l.lists (many_at refutation.read refutation.least (l.count - l.counter) l.rest) ≡ many_at refutation.read refutation.least l.count l.bytes
