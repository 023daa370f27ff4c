use Rattle.std.proofs.lemmas.Bool.{leb-true}
use Rattle.dd_lattice.specs.Place.{moved}
use Rattle.dd_topology.specs.Topology.{extent}
use Rattle.dd_problem.proofs.NearCalls.{sum_there, is_there}
use Rattle.dd_problem.proofs.tori.shifted.Goals as goal

pub unwrap-requires : goal.unwrap-requires
unwrap-requires c =
    let p = c.args.cell.now.position in
    let v = c.args.by.now in
    is_there c.shift.result (moved p v) (sum_there p v c.shift.result (leb-true (extent p) 16 c.requires.near) c.requires.by c.shift.ensures)
