use Rattle.std.proofs.Common.{◌≡◌, map, take}
use Rattle.dd_topology.proofs.builtin.names_of.Given as goal

abbrev pub invariant-loop-text : goal.invariant-loop-text
invariant-loop-text l = l.names ≡ map (λ text. text.now) (take l.text-index l.texts)
