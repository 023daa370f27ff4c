use Rattle.std.proofs.Common.{◌<◌, ℕ, get_or}
use Rattle.dd_derivation.specs.declared.propagation.VariableMark.{VariableMark}
use Rattle.dd_derivation.proofs.refutation.clear.Given as goal

abbrev pub invariant-loop-mark : goal.invariant-loop-mark
invariant-loop-mark l = (k : ℕ) (d : VariableMark) → k < l.mark-index → (get_or l.marks k d).step < 1
