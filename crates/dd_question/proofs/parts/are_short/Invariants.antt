use Rattle.std.proofs.Common.{take}
use Rattle.std.specs.List.{All}
use Rattle.dd_boxes.specs.Discharges.{IsVector}
use Rattle.dd_question.proofs.parts.are_short.Given as goal

abbrev pub invariant-loop-vector : goal.invariant-loop-vector
invariant-loop-vector l = All (IsVector l.dimension) (take l.vector-index l.vectors)
