use Rattle.std.proofs.Common.{◌≡◌, None, take}
use Rattle.dd_derivation.specs.checking.MarksOf.{first_literal_of}
use Rattle.dd_derivation.proofs.propagation.first_of.Given as goal

abbrev pub invariant-loop-literal : goal.invariant-loop-literal
invariant-loop-literal l = first_literal_of l.variable (take l.literal-index l.literals) ≡ None
