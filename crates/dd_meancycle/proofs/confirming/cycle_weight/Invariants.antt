use Rattle.std.proofs.Common.{◌≡◌, ◌*◌, ◌^◌, ◌≤◌, take}
use Rattle.dd_meancycle.specs.Means.{IsPath, weight_of}
use Rattle.dd_meancycle.proofs.confirming.cycle_weight.Given as goal

abbrev pub invariant-loop-state : goal.invariant-loop-state
invariant-loop-state l = record {
  path : IsPath l.graph l.last (take l.state-index l.cycle) l.from;
  sum : l.weight ≡ weight_of l.graph (take l.state-index l.cycle);
  small : l.weight ≤ 2 ^ 25 * l.state-index;
}
