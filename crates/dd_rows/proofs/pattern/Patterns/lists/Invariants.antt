use Rattle.std.proofs.Common.{◌≡◌, take}
use Rattle.dd_rows.proofs.pattern.Patterns.lists.Given as goal

abbrev pub invariant-loop-pattern : goal.invariant-loop-pattern
invariant-loop-pattern l = l.lists ≡ take l.pattern-index l.self
