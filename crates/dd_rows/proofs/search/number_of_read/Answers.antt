use Rattle.std.proofs.Common.{sym, ◌∙◌}
use Rattle.dd_lattice.specs.{Place.moved, Cells.shifted, lemmas.RangeLaws.outside_if_not_given}
use Rattle.dd_rows.specs.lemmas.Ready.{number_outside}
use Rattle.dd_rows.proofs.search.number_of_read.Goals as goal

pub returns-in-None : goal.returns-in-None
returns-in-None c =
    let there = moved c.args.read.now.position c.args.cell.now.position in
    sym (number_outside c.args.cells.now c.requires.near (shifted c.args.cell.now.position c.args.read.now) (outside_if_not_given there (sym c.in-None.is ∙ c.shift.ensures)))
