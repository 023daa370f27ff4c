use Rattle.std.proofs.Common.{◌≡◌, length, reverse}
use Rattle.dd_engines.proofs.Analysing.{Leads}
use Rattle.dd_engines.proofs.analysis.walk_back.Given as goal

abbrev pub invariant-loop-i : goal.invariant-loop-i
invariant-loop-i l = record {
  leads : Leads l.clauses l.entries l.i l.marked (reverse l.hints.items);
  long : length l.marked ≡ length l.initial.marked;
}
