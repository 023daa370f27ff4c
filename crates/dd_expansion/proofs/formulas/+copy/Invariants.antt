use Rattle.std.proofs.Common.{◌≡◌, take}
use Rattle.dd_expansion.proofs.formulas.+copy.Given as goal

abbrev pub invariant-copy_all-loop-part : goal.invariant-copy_all-loop-part
invariant-copy_all-loop-part l = l.copies ≡ take l.part-index l.parts
