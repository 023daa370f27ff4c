use Rattle.std.proofs.Common.{length, ◌-◌}
use Rattle.dd_engines.specs.Rosters.{roster_seen}
use Rattle.dd_engines.proofs.Asking.{Whole}
use Rattle.dd_engines.proofs.roster.Roster.ask.Given as goal

abbrev pub invariant-loop-place : goal.invariant-loop-place
invariant-loop-place g l = Whole g.E.Engine.asked g.E.Engine.given g.E.Engine.sound (roster_seen g.E.Engine.asked g.E.Engine.given g.E.Engine.sound l.initial.self) l.self.engines.items l.place

abbrev pub decreases-loop-place : goal.decreases-loop-place
decreases-loop-place g l = length l.self.engines.items - l.place
