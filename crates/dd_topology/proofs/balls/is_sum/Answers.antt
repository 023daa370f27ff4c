use Rattle.dd_lattice.specs.Place.{place}
use Rattle.dd_topology.proofs.CoordinateLaws.{apart_x, apart_y, joined_z}
use Rattle.dd_topology.proofs.balls.is_sum.Goals as goal

pub returns-then-p-by : goal.returns-then-p-by
returns-then-p-by c =
    let p = c.p.inside in
    let by = c.by.inside in
    let sum = c.sum.inside in
    rw (← c.p.view_is, ← c.by.view_is, ← c.sum.view_is)
    (apart_x (place p.x p.y p.z) (place by.x by.y by.z) (place sum.x sum.y sum.z) c.p.invariant c.by.invariant c.sum.invariant c.if-p-by.true)

pub returns-then-p-by-2 : goal.returns-then-p-by-2
returns-then-p-by-2 c =
    let p = c.p.inside in
    let by = c.by.inside in
    let sum = c.sum.inside in
    rw (← c.p.view_is, ← c.by.view_is, ← c.sum.view_is)
    (apart_y (place p.x p.y p.z) (place by.x by.y by.z) (place sum.x sum.y sum.z) c.p.invariant c.by.invariant c.sum.invariant c.if-p-by-2.true)

pub returns : goal.returns
returns c =
    let p = c.p.inside in
    let by = c.by.inside in
    let sum = c.sum.inside in
    rw (← c.p.view_is, ← c.by.view_is, ← c.sum.view_is)
    (joined_z (place p.x p.y p.z) (place by.x by.y by.z) (place sum.x sum.y sum.z) c.p.invariant c.by.invariant c.sum.invariant c.if-p-by.false c.if-p-by-2.false)
