use Rattle.std.proofs.Common.{◌≡◌, length}
use Rattle.dd_engines.specs.propagation.Following.{Follows, unknowns}
use Rattle.dd_engines.proofs.propagation.all_passes.Given as goal

abbrev pub invariant-passes : goal.invariant-passes
invariant-passes l = record {
  follows : Follows l.cnf.clauses l.trail.entries.items l.trail.values.items;
  long : length l.trail.values.items ≡ length l.initial.trail.values.items;
}

abbrev pub decreases-passes : goal.decreases-passes
decreases-passes l = unknowns l.trail.values.items
