use Rattle.std.proofs.Common.{◌≡◌, ℕ, ◌*◌, ◌≤◌, arith, subst, sym, ap, ◌∙◌}
use Rattle.dd_meancycle.specs.table.Lists.{AreEdgesTo}
use Rattle.dd_meancycle.proofs.EdgeLaws.{edges_more}
use Rattle.dd_meancycle.proofs.edges.edges.Goals as goal

pub loop-number-preserved : goal.loop-number-preserved
loop-number-preserved c =
    subst (AreEdgesTo c.args.graph.now _) (sym c.in_ok-push_some.ensures)
    (edges_more c.args.graph.now c.loop-number.number c.loop-number.edges.items c.edge_at.result c.loop-number.invariant c.edge_at.ensures)
