use Rattle.std.proofs.Common.{◌≡◌, length, reverse}
use Rattle.dd_meanings.specs.Formulas.{iff_of, iff_behind}
use Rattle.dd_meanings.proofs.formulas.equivalent.Given as goal

abbrev pub invariant-loop-next : goal.invariant-loop-next
invariant-loop-next l = iff_behind l.whole (reverse l.back) ≡ iff_of l.fn.parts

abbrev pub decreases-loop-next : goal.decreases-loop-next
decreases-loop-next l = length l.back
