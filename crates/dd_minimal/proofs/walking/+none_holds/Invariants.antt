use Rattle.std.proofs.Common.{◌≡◌, ◌+◌, ◌*◌, true, length}
use Rattle.std.specs.List.{list_all, range_with_len}
use Rattle.dd_minimal.specs.finding.Walks.{none_holds}
use Rattle.dd_minimal.proofs.walking.+none_holds.Given as goal

abbrev pub decreases-none_holds : goal.decreases-none_holds
decreases-none_holds l = length l.strides.now

-- for the symbols so far, the rule is true under none of the walk's fillings with allowed symbols
abbrev pub invariant-loop-symbol : goal.invariant-loop-symbol
invariant-loop-symbol l = list_all (λ s. none_holds l.symbols l.later l.table (l.from + s * l.stride)) (range_with_len 0 l.symbol) ≡ true
