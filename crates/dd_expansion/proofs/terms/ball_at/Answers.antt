use Rattle.std.proofs.Common.{◌≡◌, true}
use Rattle.dd_topology.specs.{Topology.are_short, Balls.IsInBall, Balls.CellsLeaveRange}
use Rattle.dd_expansion.proofs.Extents.{ball_near, ball_stays}
use Rattle.dd_expansion.proofs.terms.ball_at.Goals as goal

pub unreachable-requires : goal.unreachable-requires
unreachable-requires c =
    let es = c.args.topology.now.edges in
    let short : are_short 4 es ≡ true = rw c.edges-edges.ensures.edges at c.edges-edges.ensures.short in
    let fault = c.in-Err-Range.ensures.fault in
    let leaves : CellsLeaveRange (IsInBall es c.args.centre.now c.args.radius) = rw c.in-Err-Range.field-0-is at fault in
    ball_stays es c.args.centre.now c.args.radius short c.requires.near leaves

pub returns-in-Ok-clause-near : goal.returns-in-Ok-clause-near
returns-in-Ok-clause-near c =
    let es = c.args.topology.now.edges in
    let short : are_short 4 es ≡ true = rw c.edges-edges.ensures.edges at c.edges-edges.ensures.short in
    ball_near es c.args.centre.now c.args.radius c.in-Ok.cells.items short c.in-Ok.ensures.cells
