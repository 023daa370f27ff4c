use Rattle.std.proofs.Common.{◌≡◌, pos, arith, rules}
use Rattle.dd_lattice.specs.{Place.place, Cells.cell, declared.position.Cell.Cell}
use Rattle.dd_transfer.specs.Windows.{slice_index_of}
use Rattle.dd_transfer.proofs.Places.{slice_below}
use Rattle.dd_transfer.proofs.cells.slice_place.Goals as goal

pub returns-clause-below : goal.returns-clause-below
returns-clause-below c =
    let here : Cell = cell (place (pos 0) c.args.y c.args.z) c.args.node in
    let value : c.entry.result ≡ slice_index_of c.args.strip.now here = search rules in
    omega (arith, value, slice_below c.args.strip.now here c.requires.sized c.requires.node)
