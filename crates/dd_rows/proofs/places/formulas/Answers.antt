use Rattle.std.proofs.Common.{ap}
use Rattle.dd_rows.specs.{listing.Formulas.are_all_true, lemmas.FormulaLaws.say_next}
use Rattle.dd_rows.proofs.places.formulas.Goals as goal

pub loop-place-init : goal.loop-place-init
loop-place-init c = λ ss size below. ap (λ es. are_all_true es ss) c.new-formulas.ensures

pub loop-place-preserved : goal.loop-place-preserved
loop-place-preserved c =
    say_next c.args.rule.now c.args.cells.now c.args.places.now c.loop-place.place-index c.place-item.result c.loop-place.formulas c.push.new.self c.in_ok-formula.formula
    c.loop-place-test.true c.place-item.is c.loop-place.invariant c.in_ok-formula.ensures c.in_ok-push.ensures.ok
