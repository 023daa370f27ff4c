use Rattle.dd_minimal.specs.finding.{Numbers.digits, States.IsThinnedTo}
use Rattle.dd_minimal.proofs.thinning.thin.Given as goal

abbrev pub invariant-loop-stride : goal.invariant-loop-stride
invariant-loop-stride l = IsThinnedTo l.symbols l.table (digits l.symbols l.strides l.at) l.stride-index l.pattern l.left_out.items l.from
