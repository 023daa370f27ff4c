use Rattle.std.proofs.Common.{sym, subst}
use Rattle.dd_formula.specs.Values.{IsPlaced}
use Rattle.dd_compile.specs.Valued.{SaysNear}
use Rattle.dd_compile.proofs.{SaidRules.given_says, SaidComposed.composed_made_says}
use Rattle.dd_compile.proofs.laws.+says_near.Goals as goal

pub returns-in-Given : goal.returns-in-Given
returns-in-Given t c = subst SaysNear (sym c.in-Given.is) (given_says c.in-Given.cases c.rules_are_kept.ensures)

pub returns-in-Composed : goal.returns-in-Composed
returns-in-Composed t c =
    subst SaysNear (sym c.in-Composed.is)
    (composed_made_says c.in-Composed.outer c.in-Composed.inner (subst IsPlaced c.get.ensures c.reads_are_placed.ensures)
    (subst SaysNear c.get-in-Composed.ensures c.says_near.ensures) (subst SaysNear c.get-in-Composed-2.ensures c.says_near-in-Composed.ensures))
