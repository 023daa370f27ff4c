use Rattle.dd_lattice.specs.{Place.IsCoordinateInRange, lemmas.MoveLaws.sum_of_near}
use Rattle.dd_transfer.proofs.placing.number_at.Goals as goal

pub returns : goal.returns
returns c =
    let p = c.position.inside in
    let q = c.by.inside in
    let px : IsCoordinateInRange p.x = c.position.invariant.0 in
    let py : IsCoordinateInRange p.y = c.position.invariant.1 in
    let pz : IsCoordinateInRange p.z = c.position.invariant.2 in
    let qx : IsCoordinateInRange q.x = c.by.invariant.0 in
    let qy : IsCoordinateInRange q.y = c.by.invariant.1 in
    let qz : IsCoordinateInRange q.z = c.by.invariant.2 in
    rw (← c.position.view_is, ← c.by.view_is) (simp sum_of_near at c.number.ensures)
