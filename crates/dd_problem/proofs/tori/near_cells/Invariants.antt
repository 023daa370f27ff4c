use Rattle.std.proofs.Common.{◌≡◌, ◌++◌, take}
use Rattle.std.specs.List.{flat_map}
use Rattle.dd_boxes.specs.{Boxes.goal_reach, Cells.box_cells, Views.goal_of}
use Rattle.dd_problem.specs.pushing.Near.{read_cells}
use Rattle.dd_problem.proofs.tori.near_cells.Given as goal

abbrev pub invariant-loop-cell : goal.invariant-loop-cell
invariant-loop-cell l = l.found.items ≡ box_cells l.premise (goal_reach (goal_of l.premise l.goal)) ++ flat_map (read_cells l.premise) (take l.cell-index l.cells)
