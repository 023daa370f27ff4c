use Rattle.std.proofs.Common.{◌≡◌, Some, length}
use Rattle.dd_engines.specs.{Walks.values_after, Walks.NoneBefore, walking.Walking.Walks, walking.Cycles.IsCounted, walking.Cycles.IsPeriod}
use Rattle.std.specs.Option.{IfSome}
use Rattle.dd_engines.proofs.walk.first_found.Given as goal

abbrev pub invariant-loop-k : goal.invariant-loop-k
invariant-loop-k l = record {
  walks : Walks l.cnf.clauses l.walk.values.items l.walk.truths.counts.items l.walk.truths.marks.items l.walk.truths.first_block;
  long : length l.walk.values.items ≡ l.cnf.variables;
  reached : values_after l.cnf l.k ≡ Some l.walk.values.items;
  landmark : values_after l.cnf l.walk.landmark.flips ≡ Some l.walk.landmark.values.items;
  period : IfSome l.period (IsPeriod l.cnf l.walk.landmark.flips l.k);
  counted : IsCounted l.walk.landmark l.walk.values.items;
  none_before : NoneBefore l.cnf l.k;
}
