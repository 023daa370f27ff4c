use Rattle.std.proofs.Common.{◌≡◌, ◌++◌, map, take}
use Rattle.dd_evidence.proofs.Patterns.{pattern_of}
use Rattle.dd_evidence.proofs.listing.push_node.Given as goal

abbrev pub invariant-loop-filling : goal.invariant-loop-filling
invariant-loop-filling l = l.patterns ≡ l.initial.patterns ++ map (pattern_of l.node) (take l.filling-index l.filling-items)
