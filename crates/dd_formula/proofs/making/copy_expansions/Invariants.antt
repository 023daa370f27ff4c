use Rattle.std.proofs.Common.{◌≡◌, take}
use Rattle.dd_formula.proofs.making.copy_expansions.Given as goal

abbrev pub invariant-loop-expansion : goal.invariant-loop-expansion
invariant-loop-expansion l = l.copies ≡ take l.expansion-index l.expansions
