use Rattle.std.proofs.Common.{ℕ, ◌≤◌, ◌<◌}
use Rattle.dd_engines.specs.{Rosters.roster_seen, Rounds.Kept, Rounds.FirstAsked}
use Rattle.dd_contain.proofs.search.first_radius.Given as goal

abbrev pub invariant-loop-radius : goal.invariant-loop-radius
invariant-loop-radius g l = record {
  none : (k : ℕ) → l.least ≤ k → k < l.radius → g.Q.Questions.suffices l.questions k → ⊥;
  kept : Kept (roster_seen g.E.Engine.asked g.E.Engine.given g.E.Engine.sound l.initial.roster) (roster_seen g.E.Engine.asked g.E.Engine.given g.E.Engine.sound l.roster);
  first : l.least < l.radius → FirstAsked (roster_seen g.E.Engine.asked g.E.Engine.given g.E.Engine.sound l.initial.roster) (roster_seen g.E.Engine.asked g.E.Engine.given g.E.Engine.sound l.roster);
}
