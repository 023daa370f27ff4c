use Rattle.std.proofs.Common.{◌≡◌, ◌%◌, arith, rules, sym, subst}
use Rattle.dd_lattice.specs.Cells.{cell}
use Rattle.dd_pattern.specs.{Tile.IsTile, Tile.IsPeriodic, Tile.IsInBox, Tile.cell_in, lemmas.BoxLaws.in_box, lemmas.BoxLaws.index_of_cell}
use Rattle.dd_pattern.proofs.periodic.Periodic.cell_at.Goals as goal

pub returns-clause-in_box : goal.returns-clause-in_box
returns-clause-in_box c =
    let t = c.args.self.now in
    let ok : IsTile t = (subst IsPeriodic c.self.view_is c.self.invariant).tile in
    let is : cell c.position_of-position.result (c.args.number % c.self.inside.nodes) ≡ cell_in t c.args.number = search rules in
    subst (IsInBox t) (sym is) (in_box t ok c.args.number c.requires)

pub returns-clause-number : goal.returns-clause-number
returns-clause-number c = grind (arith, in_box, index_of_cell)
