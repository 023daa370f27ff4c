use Rattle.std.proofs.Common.{◌≡◌, ◌≤◌, ◌<◌, ℕ, false, get_or}
use Rattle.std.specs.{Option.MatchOption, Bool.⊤}
use Rattle.dd_trail.specs.declared.trail.Entry.{Entry}
use Rattle.dd_solver.specs.searching.Analysis.{marks, IsPlace}
use Rattle.dd_solver.proofs.analysis.find_place.Given as goal

abbrev pub invariant-loop-i : goal.invariant-loop-i
invariant-loop-i l = record {
  unmarked : (k : ℕ) (d : Entry) → l.i ≤ k → k < l.top → marks l.marked (get_or l.entries k d).literal ≡ false;
  place : MatchOption l.place ⊤ (IsPlace l.entries l.marked l.top);
}
