use Rattle.dd_lattice.specs.Place.{IsCoordinateInRange}
use Rattle.dd_topology.proofs.CoordinateLaws.{difference_of_near}
use Rattle.dd_topology.proofs.edge.reversed.Goals as goal

pub returns : goal.returns
returns c =
    let p = c.offset.inside in
    let x : IsCoordinateInRange p.x = c.offset.invariant.0 in
    let y : IsCoordinateInRange p.y = c.offset.invariant.1 in
    let z : IsCoordinateInRange p.z = c.offset.invariant.2 in
    rw (← c.offset.view_is) (simp difference_of_near)
