use Rattle.std.proofs.Common.{◌<◌}
use Rattle.dd_engines.specs.{Rosters.roster_seen, Rounds.Kept, Rounds.FirstAsked}
use Rattle.dd_question.specs.Conjugacies.{conjugacy_of}
use Rattle.dd_respond.specs.joining.Findings.{AreFound}
use Rattle.dd_respond.proofs.conjugacies.first_failed.Given as goal

abbrev pub invariant-loop-number : goal.invariant-loop-number
invariant-loop-number g l = record {
  found : AreFound l.limits (conjugacy_of l.conjugacy) l.number l.findings;
  kept : Kept (roster_seen g.E.Engine.asked g.E.Engine.given g.E.Engine.sound l.initial.roster) (roster_seen g.E.Engine.asked g.E.Engine.given g.E.Engine.sound l.roster);
  first : 1 < l.number → FirstAsked (roster_seen g.E.Engine.asked g.E.Engine.given g.E.Engine.sound l.initial.roster) (roster_seen g.E.Engine.asked g.E.Engine.given g.E.Engine.sound l.roster);
}
