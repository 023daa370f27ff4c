use Rattle.std.proofs.Common.{Some, None, if◌then◌else◌, sym, ◌∙◌, ap}
use Rattle.dd_lattice.specs.{Place.Place, Place.moved, Place.is_in_range, Cells.cell, lemmas.RangeLaws.of_sum, lemmas.RangeLaws.of_no_sum}
use Rattle.dd_topology.specs.Topology.{start_of}
use Rattle.dd_topology.proofs.edge.start_of.Goals as goal

pub returns-in_err-position : goal.returns-in_err-position
returns-in_err-position c =
    let there = start_of c.args.cell.now c.args.edge.now in
    let shifted = c.shift.ensures ∙ ap (λ (by : Place). if is_in_range (moved c.args.cell.now.position by) then Some (moved c.args.cell.now.position by) else None) c.reversed-back.ensures in
    c.from_residual.ensures ∙ of_no_sum (is_in_range there.position) there.position (Some there) (sym c.in_err-position.was ∙ shifted)

pub returns : goal.returns
returns c =
    let there = start_of c.args.cell.now c.args.edge.now in
    let shifted = c.shift.ensures ∙ ap (λ (by : Place). if is_in_range (moved c.args.cell.now.position by) then Some (moved c.args.cell.now.position by) else None) c.reversed-back.ensures in
    of_sum (is_in_range there.position) there.position c.in_ok-position.position (λ p. Some (cell p c.args.edge.now.from)) (sym c.in_ok-position.was ∙ shifted)
