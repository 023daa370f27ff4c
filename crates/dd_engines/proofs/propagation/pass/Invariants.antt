use Rattle.std.proofs.Common.{◌≡◌, length}
use Rattle.dd_engines.specs.propagation.Following.{Follows}
use Rattle.dd_engines.proofs.Passing.{PassedSoFar}
use Rattle.dd_engines.proofs.propagation.pass.Given as goal

abbrev pub invariant-loop-number : goal.invariant-loop-number
invariant-loop-number l = record {
  follows : Follows l.clauses l.trail.entries.items l.trail.values.items;
  long : length l.trail.values.items ≡ length l.initial.trail.values.items;
  so_far : PassedSoFar l.clauses l.initial.trail.values.items l.trail.values.items l.number l.is_settled;
}
