use Rattle.std.proofs.Common.{◌≤◌}
use Rattle.std.specs.Io.KnownBytes.{Appends}
use Rattle.dd_session.specs.Checks.{AcceptedTo, accepted_lines}
use Rattle.dd_session.proofs.checking.check_each.Given as goal

abbrev pub invariant-loop-done : goal.invariant-loop-done
invariant-loop-done g l = record {
  within : l.done ≤ l.most;
  accepted : AcceptedTo l.script l.answers l.done;
  wrote : Appends (g.K.Sink.held l.initial.sink) (g.K.Sink.held l.sink) (accepted_lines l.done);
  later : g.K.Sink.faults l.initial.sink ≤ g.K.Sink.faults l.sink;
}
