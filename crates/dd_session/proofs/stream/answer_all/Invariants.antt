use Rattle.std.proofs.Common.{◌≤◌, take}
use Rattle.dd_engines.specs.{Rosters.roster_seen, Rounds.Kept}
use Rattle.dd_answer.specs.Asking.{AsksSomeBoxes}
use Rattle.dd_respond.specs.Asking.{Engages}
use Rattle.dd_session.specs.{writing.Forms.text_in, Written.Answered}
use Rattle.dd_session.proofs.stream.answer_all.Given as goal

abbrev pub invariant-loop-done : goal.invariant-loop-done
invariant-loop-done g l = record {
  wrote : Answered (text_in l.form) (g.K.Sink.held l.initial.sink) (g.K.Sink.held l.sink) l.script (take l.done l.queries) 1 l.has_unknown;
  later : g.K.Sink.faults l.initial.sink ≤ g.K.Sink.faults l.sink;
  kept : Kept (roster_seen g.E.Engine.asked g.E.Engine.given g.E.Engine.sound l.initial.roster) (roster_seen g.E.Engine.asked g.E.Engine.given g.E.Engine.sound l.roster);
  asked : Engages (AsksSomeBoxes l.script (take l.done l.queries)) (roster_seen g.E.Engine.asked g.E.Engine.given g.E.Engine.sound l.initial.roster)
      (roster_seen g.E.Engine.asked g.E.Engine.given g.E.Engine.sound l.roster);
}
