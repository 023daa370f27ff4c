use Rattle.std.proofs.Common.{map, take}
use Rattle.dd_pairs.specs.Made.{comparison_of, ArePairs}
use Rattle.dd_pairs.proofs.pairs.made.Given as goal

abbrev pub invariant-loop-comparison : goal.invariant-loop-comparison
invariant-loop-comparison l = ArePairs l.known (map comparison_of (take l.comparison-index l.comparisons)) l.pairs
