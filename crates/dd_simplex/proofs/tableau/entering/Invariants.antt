use Rattle.dd_simplex.specs.table.Choices.{IsChosen, does_enter, EntersBefore}
use Rattle.dd_simplex.proofs.tableau.entering.Given as goal

abbrev pub invariant-loop-j : goal.invariant-loop-j
invariant-loop-j l = IsChosen (does_enter l.costs) (EntersBefore l.others) l.j l.chosen
