use Rattle.std.proofs.Common.{length}
use Rattle.dd_formula.specs.LocalRule.{cells_at}
use Rattle.dd_minimal.proofs.NumberLaws.{AreStrides}
use Rattle.dd_minimal.proofs.listing.strides_of.Given as goal

-- the list has the strides of the cells so far, and `stride` is the last of them, or the number of all fillings if there is none yet
abbrev pub invariant-loop-cell : goal.invariant-loop-cell
invariant-loop-cell l = AreStrides l.rule.symbols (length (cells_at l.rule l.node)) l._cell-index l.list l.stride
