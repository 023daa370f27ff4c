use Rattle.std.proofs.Common.{◌≡◌, ◌+◌, ◌*◌, length}
use Rattle.std.specs.List.{fold, range_with_len}
use Rattle.dd_minimal.specs.finding.Walks.{marked}
use Rattle.dd_minimal.proofs.walking.+mark.Given as goal

abbrev pub decreases-mark : goal.decreases-mark
decreases-mark l = length l.strides.now

-- the fillings for the symbols so far are marked
abbrev pub invariant-loop-symbol : goal.invariant-loop-symbol
invariant-loop-symbol l = l.marks ≡ fold (λ now s. marked l.symbols l.later now (l.from + s * l.stride)) l.initial.marks (range_with_len 0 l.symbol)
