use Rattle.std.proofs.Common.{◌≡◌, map}
use Rattle.dd_problem.specs.pushing.Near.{number_at}
use Rattle.dd_problem.proofs.Inputting.{first_numbered}
use Rattle.dd_problem.proofs.tori.inputs_by_number.Given as goal

abbrev pub invariant-loop-cell : goal.invariant-loop-cell
invariant-loop-cell l = l.inputs ≡ first_numbered l.symbols l.cells (map (number_at l.numbers) l.cells) l.cell-index
