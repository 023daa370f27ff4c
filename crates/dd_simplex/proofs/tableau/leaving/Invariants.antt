use Rattle.dd_simplex.specs.table.Choices.{DoRatiosFit, IsChosen, does_limit, LeavesBefore, IsRatioOf}
use Rattle.dd_simplex.proofs.tableau.leaving.Given as goal

abbrev pub invariant-loop-i : goal.invariant-loop-i
invariant-loop-i l = record {
  fit : DoRatiosFit l.lines l.e l.i;
  chosen : IsChosen (does_limit l.lines l.e) (LeavesBefore l.lines l.e) l.i l.chosen;
  ratio : IsRatioOf l.lines l.e l.least l.chosen;
}
