use Rattle.std.proofs.Common.{◌<◌, ◌∙◌, sym, refl, length, Some, None}
use Rattle.std.proofs.lemmas.{List.length-map, Option.slice_get_read}
use Rattle.dd_topology.specs.keeping.Kept.{move_of}
use Rattle.dd_topology.proofs.MoveLaws.{found_by_move}
use Rattle.dd_topology.proofs.topology.Topology.edge_from.Goals as goal

pub returns-in-Some-clause-edge : goal.returns-in-Some-clause-edge
returns-in-Some-clause-edge c =
    let t = c.self.inside in
    let below : c.in-Some.at < length t.edges = rw (sym (length-map t.edges move_of), ← c.self.invariant.1) c.in-Some.ensures.within in
    rw (← c.self.view_is)
    (sym (slice_get_read t.edges (length t.edges) c.in-Some.at c.index.result.now refl below c.index.ensures)
    ∙ found_by_move t.edges t.moves.keys c.self.invariant.1 c.args.cell.now c.args.label (Some c.in-Some.at) (sym c.in-Some.is ∙ c.get_index_of.ensures.index))

pub returns-in-None-clause-edge : goal.returns-in-None-clause-edge
returns-in-None-clause-edge c =
    let t = c.self.inside in
    rw (← c.self.view_is) (found_by_move t.edges t.moves.keys c.self.invariant.1 c.args.cell.now c.args.label None (sym c.in-None.is ∙ c.get_index_of.ensures.index))
