use Rattle.std.proofs.Common.{sym, subst}
use Rattle.std.specs.List.{All}
use Rattle.dd_lattice.specs.Regions.{IsNearby, LeavesRange}
use Rattle.dd_boxes.specs.Discharges.{IsVector}
use Rattle.dd_rows.proofs.{GroundLaws.grounded, Reach.grown_stays}
use Rattle.dd_rows.proofs.domain.ground.Goals as goal

pub unreachable-requires : goal.unreachable-requires
unreachable-requires c =
    let vs = c.args.vectors.now in
    let d = c.dim-dim.result in
    let leaves : LeavesRange (IsNearby d c.args.margin c.in_ok-near.near) = rw c.in-Err-Range.field-0-is at c.in-Err-Range.ensures in
    let each : All (IsVector d) vs = subst (λ n. All (IsVector n) vs) (sym c.dim-dim.ensures) c.requires.vectors.each in
    grown_stays d c.args.radius c.args.margin vs c.in_ok-near.near c.requires.radius c.requires.margin each c.in_ok-near.ensures.members leaves

pub returns : goal.returns
returns c =
    let known = grounded c.args.rule.now c.args.radius c.args.margin c.args.vectors.now c.dim-dim.result c.nodes-nodes.result c.in_ok-near.near c.in-Ok.region
    c.list-positions.result.now c.in_ok-cells.cells c.dim-dim.ensures c.nodes-nodes.ensures.value c.in_ok-near.ensures.members c.in-Ok.ensures c.list-positions.ensures.value
    c.in_ok-cells.ensures in
    record { ground = known.ground; order = known.order; nodes = known.nodes; near = known.near; memory = tt }
