use Rattle.std.proofs.Common.{ap}
use Rattle.dd_lattice.specs.{Place.moved, Cells.cell}
use Rattle.dd_lattice.specs.lemmas.RangeLaws.{in_range_from_test, in_range_if_given, outside_if_not_given}
use Rattle.dd_compile.specs.lemmas.RuleWiring.{near_in_range}
use Rattle.dd_compile.proofs.automata.cell_near.Goals as goal

pub returns : goal.returns
returns c = ap (λ p. cell p c.args.cell.now.node) (in_range_if_given (moved c.args.cell.now.position c.args.at.now) c.in-Some.position c.in-Some.ensures).0

pub unreachable-requires : goal.unreachable-requires
unreachable-requires c =
    let there = moved c.args.cell.now.position c.args.at.now in
    outside_if_not_given there c.in_default.ensures (in_range_from_test there (near_in_range c.args.at.now c.args.cell.now c.requires.inside c.requires.near))
