use Rattle.dd_lattice.specs.{Place.IsCoordinateInRange, lemmas.MoveLaws.sum_of_near}
use Rattle.dd_lattice.proofs.position.shift.Goals as goal

pub returns : goal.returns
returns c =
    let p = c.p.inside in
    let q = c.by.inside in
    let px : IsCoordinateInRange p.x = c.p.invariant.0 in
    let py : IsCoordinateInRange p.y = c.p.invariant.1 in
    let pz : IsCoordinateInRange p.z = c.p.invariant.2 in
    let qx : IsCoordinateInRange q.x = c.by.invariant.0 in
    let qy : IsCoordinateInRange q.y = c.by.invariant.1 in
    let qz : IsCoordinateInRange q.z = c.by.invariant.2 in
    rw (← c.p.view_is, ← c.by.view_is) (simp sum_of_near at c.new.ensures)
