use Rattle.std.proofs.Common.{◌<◌, get_or, length, arith, sym, ap, ◌∙◌}
use Rattle.dd_fraction.specs.{Exact.Exact, Checked.checked_less_product}
use Rattle.dd_simplex.proofs.CellSteps.{subtract_step, subtract_stops}
use Rattle.dd_simplex.proofs.line.subtract.Goals as goal

pub returns-in_default-clause-fits : goal.returns-in_default-clause-fits
returns-in_default-clause-fits c =
    let p : c.loop-i.i < length c.loop-i.cells = omega arith in
    let r : c.loop-i.i < length c.args.others.now = omega arith in
    let cell = c.index-cells-i-in-loop-i.result in
    let other = c.index-others-i-in-loop-i in
    subtract_stops c.args.factor.now c.loop-i.cells c.args.others.now c.loop-i.i cell other.result p r
    (c.in_default.ensures ∙ ap (λ (t : Exact). checked_less_product (get_or c.loop-i.cells c.loop-i.i cell) c.args.factor.now t) other.is)
    ∙ sym c.loop-i.invariant.fits

pub loop-i-preserved : goal.loop-i-preserved
loop-i-preserved c =
    let p : c.loop-i.i < length c.loop-i.cells = omega arith in
    let r : c.loop-i.i < length c.args.others.now = omega arith in
    let cell = c.index-cells-i-in-loop-i.result in
    let other = c.index-others-i-in-loop-i in
    let s = subtract_step c.args.factor.now c.loop-i.cells c.args.others.now c.loop-i.i cell other.result c.in-Some.difference p r
    (c.in-Some.ensures ∙ ap (λ (t : Exact). checked_less_product (get_or c.loop-i.cells c.loop-i.i cell) c.args.factor.now t) other.is) in
    record { fits = c.loop-i.invariant.fits ∙ s.0; whole = c.loop-i.invariant.whole ∙ s.1 }
