use Rattle.std.proofs.Common.{sym, subst}
use Rattle.dd_formula.specs.{Values.IsPlaced, lemmas.ValueLaws.placed_given, lemmas.ValueLaws.placed_composed}
use Rattle.dd_formula.proofs.automaton.Automaton.+reads_are_placed.Goals as goal

pub returns-in-Given : goal.returns-in-Given
returns-in-Given t c = subst IsPlaced (sym c.in-Given.is) (placed_given c.in-Given.cases c.reads_are_placed.ensures)

pub returns-in-Composed : goal.returns-in-Composed
returns-in-Composed t c =
    subst IsPlaced (sym c.in-Composed.is)
    (placed_composed c.in-Composed.outer c.in-Composed.inner (subst IsPlaced c.get.ensures c.reads_are_placed-in-Composed.ensures)
    (subst IsPlaced c.get-in-Composed.ensures c.reads_are_placed-in-Composed-2.ensures))
