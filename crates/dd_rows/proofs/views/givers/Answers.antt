use Rattle.std.proofs.Common.{◌∙◌, ap}
use Rattle.dd_topology.specs.Topology.{reversed}
use Rattle.dd_rows.specs.listing.Views.{view_of}
use Rattle.dd_rows.proofs.Collected.{mapped_next}
use Rattle.dd_rows.proofs.views.givers.Goals as goal

pub loop-vector-preserved : goal.loop-vector-preserved
loop-vector-preserved c =
    let cells = c.args.cells.now in
    let boxed = c.args.boxed.now in
    mapped_next (λ v. view_of cells boxed (reversed v)) c.args.vectors.now c.loop-vector.vector-index c.vector-item.result c.loop-vector.givers c.push.new.self c.in_ok-view.field-0
    c.loop-vector-test.true c.loop-vector.invariant c.vector-item.is (c.in_ok-view.ensures ∙ ap (view_of cells boxed) c.reversed.ensures) c.in_ok-push.ensures.ok
