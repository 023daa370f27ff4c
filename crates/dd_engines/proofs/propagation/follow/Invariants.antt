use Rattle.std.proofs.Common.{◌≡◌, length}
use Rattle.dd_engines.specs.propagation.Following.{FollowsMore}
use Rattle.dd_engines.proofs.propagation.follow.Given as goal

abbrev pub invariant-waiting : goal.invariant-waiting
invariant-waiting l = record {
  more : FollowsMore l.clauses l.fn.trail.values.items l.trail.entries.items l.trail.values.items;
  long : length l.trail.values.items ≡ length l.fn.trail.values.items;
}
