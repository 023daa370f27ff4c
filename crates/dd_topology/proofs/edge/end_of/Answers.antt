use Rattle.std.proofs.Common.{Some, sym, ◌∙◌}
use Rattle.dd_lattice.specs.{Place.is_in_range, Cells.cell, lemmas.RangeLaws.of_sum, lemmas.RangeLaws.of_no_sum}
use Rattle.dd_topology.specs.Topology.{end_of}
use Rattle.dd_topology.proofs.edge.end_of.Goals as goal

pub returns-in_err-position : goal.returns-in_err-position
returns-in_err-position c =
    let there = end_of c.args.cell.now c.args.edge.now in
    c.from_residual.ensures ∙ of_no_sum (is_in_range there.position) there.position (Some there) (sym c.in_err-position.was ∙ c.shift.ensures)

pub returns : goal.returns
returns c =
    let there = end_of c.args.cell.now c.args.edge.now in
    of_sum (is_in_range there.position) there.position c.in_ok-position.position (λ p. Some (cell p c.args.edge.now.to)) (sym c.in_ok-position.was ∙ c.shift.ensures)
