use Rattle.std.proofs.Common.{◌≡◌, ◌%◌, ◌+◌}
use Rattle.dd_fraction.specs.Divisor.{greatest_common}
use Rattle.dd_fraction.proofs.divisor.odd_divisor.Given as goal

abbrev pub invariant-loop-y : goal.invariant-loop-y
invariant-loop-y l = record {
  odd : l.x % 2 ≡ 1;
  same : greatest_common l.x l.y ≡ greatest_common l.fn.a l.fn.b;
}

abbrev pub decreases-loop-y : goal.decreases-loop-y
decreases-loop-y l = l.x + l.y
