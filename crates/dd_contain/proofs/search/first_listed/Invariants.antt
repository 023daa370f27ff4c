use Rattle.dd_engines.specs.{Rosters.roster_seen, Rounds.Kept}
use Rattle.dd_contain.specs.searching.{Asking.AskedOrSame, Listed.NoneBefore}
use Rattle.dd_contain.proofs.search.first_listed.Given as goal

abbrev pub invariant-loop-at : goal.invariant-loop-at
invariant-loop-at g l = record {
  none : NoneBefore (g.Q.Questions.shows l.questions) l.all l.at-index;
  kept : Kept (roster_seen g.E.Engine.asked g.E.Engine.given g.E.Engine.sound l.initial.roster) (roster_seen g.E.Engine.asked g.E.Engine.given g.E.Engine.sound l.roster);
  asked : AskedOrSame (roster_seen g.E.Engine.asked g.E.Engine.given g.E.Engine.sound l.initial.roster) (roster_seen g.E.Engine.asked g.E.Engine.given g.E.Engine.sound l.roster);
}
