use Rattle.std.proofs.Common.{sym, subst}
use Rattle.dd_lattice.specs.{Place.Place, Regions.IsMoved, Regions.LeavesRange}
use Rattle.dd_boxes.specs.Discharges.{IsVector}
use Rattle.dd_rows.proofs.{DomainLaws.domain_next, Reach.moved_stays}
use Rattle.dd_rows.proofs.domain.domain.Goals as goal

pub unreachable-requires : goal.unreachable-requires
unreachable-requires c =
    let v = c.vector-item.result in
    let around = c.in_ok-around.around in
    let fault = c.in-Err-Range.ensures.members in
    let leaves : LeavesRange (IsMoved around c.reversed.result) = rw c.in-Err-Range.field-0-is at fault in
    let is_vector : IsVector c.args.dim v = subst (λ (p : Place). IsVector c.args.dim p) (sym c.vector-item.is) (c.requires.vectors c.loop-vector.vector-index v c.loop-vector-test.true) in
    moved_stays c.args.dim c.args.radius v c.reversed.result around c.requires.radius is_vector c.reversed.ensures c.in_ok-around.ensures.members leaves

pub loop-vector-preserved : goal.loop-vector-preserved
loop-vector-preserved c =
    domain_next c.args.dim c.args.radius c.args.vectors.now c.loop-vector.vector-index c.vector-item.result c.reversed.result c.in_ok-around.around c.in-Ok.moved
    c.loop-vector.all c.in_ok-all-2.all c.loop-vector-test.true c.vector-item.is c.reversed.ensures c.in_ok-around.ensures.members c.in-Ok.ensures.members
    c.loop-vector.invariant c.in_ok-all-2.ensures
