use Rattle.std.proofs.Common.{◌≡◌, ◌++◌, map, take}
use Rattle.dd_minimal.specs.Patterns.{pattern_of}
use Rattle.dd_evidence.specs.Lists.{starred}
use Rattle.dd_evidence.proofs.starring.push_starred.Given as goal

abbrev pub invariant-loop-pattern : goal.invariant-loop-pattern
invariant-loop-pattern l = l.patterns ≡ l.initial.patterns ++ map (starred l.node) (map pattern_of (take l.pattern-index l.pattern-items))
