use Rattle.std.proofs.Common.{◌≡◌, length}
use Rattle.dd_engines.specs.propagation.Following.{Follows}
use Rattle.dd_engines.proofs.propagation.pass_back.Given as goal

abbrev pub invariant-loop-number : goal.invariant-loop-number
invariant-loop-number l = record {
  follows : Follows l.clauses l.trail.entries.items l.trail.values.items;
  long : length l.trail.values.items ≡ length l.initial.trail.values.items;
}
