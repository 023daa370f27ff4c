use Rattle.std.proofs.Common.{◌≡◌, ◌<◌, ◌%◌, ◌+◌, ◌-◌}
use Rattle.dd_engines.proofs.cycle.common_multiple.Given as goal

abbrev pub invariant-loop-multiple : goal.invariant-loop-multiple
invariant-loop-multiple l = record {
  some : 0 < l.multiple;
  multiple : l.multiple % l.first ≡ 0;
}

abbrev pub decreases-loop-multiple : goal.decreases-loop-multiple
decreases-loop-multiple l = l.most + 1 - l.multiple
