use Rattle.dd_meanings.proofs.EdgeLaws.{are_edges, not_twice}
use Rattle.dd_meanings.proofs.topologies.edges.Goals as goal

pub from_edges-requires-clause-edges : goal.from_edges-requires-clause-edges
from_edges-requires-clause-edges c =
    rw (c.dim-dimension.ensures.value, c.count.ensures.number, c.in_ok-edges.ensures, c.in_ok-labels.ensures) (are_edges c.args.context.now c.args.edges.now c.requires.faultless)

pub unreachable-requires : goal.unreachable-requires
unreachable-requires c =
    let refusal = rw c.in-Err-Twice.field-0-is at c.in-Err-Twice.ensures.fault in
    not_twice c.args.context.now c.args.edges.now c.requires.faultless c.in-Err-Twice.field-0-0 (rw (c.in_ok-edges.ensures, c.in_ok-labels.ensures) at refusal)
