use Rattle.std.proofs.Common.{◌≡◌, ℕ, ◌*◌, ◌^◌, ◌≤◌, take, drop}
use Rattle.dd_meancycle.specs.Means.{IsPath, weight_of}
use Rattle.dd_density.proofs.claims.closed_weight.Given as goal

abbrev pub invariant-loop-state : goal.invariant-loop-state
invariant-loop-state l = record {
  path : IsPath l.graph l.last (take l.state-index l.walk) l.from;
  rest : (v : ℕ) → IsPath l.graph l.last l.walk v → IsPath l.graph l.from (drop l.state-index l.walk) v;
  sum : l.weight ≡ weight_of l.graph (take l.state-index l.walk);
  small : l.weight ≤ 2 ^ 25 * l.state-index;
}
