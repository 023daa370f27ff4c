use Rattle.std.proofs.Common.{◌≡◌, ◌≤◌, drop, map, length}
use Rattle.dd_meanings.specs.Topologies.{first_seen_names, label_text, labels_of}
use Rattle.dd_meanings.proofs.topologies.labels_of.Given as goal

abbrev pub invariant-loop-edge : goal.invariant-loop-edge
invariant-loop-edge l = record {
  rest : first_seen_names l.labels (map (label_text l.text) (drop l.edge-index l.edges)) ≡ labels_of l.text l.edges;
  few : length l.labels ≤ l.edge-index;
}
