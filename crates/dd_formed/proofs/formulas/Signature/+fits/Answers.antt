use Rattle.std.proofs.Common.{◌+◌, ◌<◌, ◌^◌, map, ap, sym, ◌∙◌, arith}
use Rattle.std.specs.List.{list_all}
use Rattle.dd_expansion.specs.Limits.{formula_fits, list_depth, depth}
use Rattle.dd_expansion.specs.lemmas.Layers.{fits_and, fits_or, depth_and, depth_or}
use Rattle.dd_formed.proofs.Layers.{parts_within, one_more, all_pass}
use Rattle.dd_formed.proofs.formulas.Signature.+fits.Goals as goal
use Rattle.dd_values.specs.lemmas.Lists.{some_fails}

pub all_fit-returns-then-not-fits : goal.all_fit-returns-then-not-fits
all_fit-returns-then-not-fits t c = λ few.
    (let here : c.args.scope + depth c.part-item.result < 2 ^ 32 = omega (arith, few c.loop-part.part-index c.part-item.result c.loop-part-test.true, ap depth c.part-item.is) in
    sym (some_fails (λ f. formula_fits c.args.self.now.topology.now c.args.self.now.symbols f c.args.scope) c.args.parts.now c.loop-part.part-index c.part-item.result c.loop-part-test.true c.part-item.is
    (sym (c.fits.ensures here) ∙ c.if-not-fits.true)))

pub all_fit-loop-part-preserved : goal.all_fit-loop-part-preserved
all_fit-loop-part-preserved t c = λ few.
    (let here : c.args.scope + depth c.part-item.result < 2 ^ 32 = omega (arith, few c.loop-part.part-index c.part-item.result c.loop-part-test.true, ap depth c.part-item.is) in
    one_more (λ f. formula_fits c.args.self.now.topology.now c.args.self.now.symbols f c.args.scope) c.args.parts.now c.loop-part.part-index c.part-item.result c.loop-part-test.true c.part-item.is
    (c.loop-part.invariant few) (sym (c.fits.ensures here) ∙ c.if-not-fits.false))

pub all_fit-returns : goal.all_fit-returns
all_fit-returns t c = λ few.
    sym (all_pass (λ f. formula_fits c.args.self.now.topology.now c.args.self.now.symbols f c.args.scope) c.args.parts.now c.loop-part.part-index (omega (arith, c.loop-part-test.false)) (c.loop-part.invariant few))

pub fits-returns-in-And : goal.fits-returns-in-And
fits-returns-in-And t c = λ few.
    (let parts = c.in-And.parts in
    let whole : c.args.scope + list_depth (map depth parts) < 2 ^ 32 = omega (arith, few, ap depth c.in-And.is, depth_and parts) in
    c.all_fit.ensures (rw (c.as_slice.ensures) (parts_within parts c.args.scope (2 ^ 32) whole))
    ∙ (ap (λ fs. list_all (λ f. formula_fits c.args.self.now.topology.now c.args.self.now.symbols f c.args.scope) fs) c.as_slice.ensures
    ∙ (sym (fits_and c.args.self.now.topology.now c.args.self.now.symbols parts c.args.scope) ∙ ap (λ f. formula_fits c.args.self.now.topology.now c.args.self.now.symbols f c.args.scope) (sym c.in-And.is))))

pub fits-returns-in-Or : goal.fits-returns-in-Or
fits-returns-in-Or t c = λ few.
    (let parts = c.in-Or.parts in
    let whole : c.args.scope + list_depth (map depth parts) < 2 ^ 32 = omega (arith, few, ap depth c.in-Or.is, depth_or parts) in
    c.all_fit-in-Or.ensures (rw (c.as_slice-in-Or.ensures) (parts_within parts c.args.scope (2 ^ 32) whole))
    ∙ (ap (λ fs. list_all (λ f. formula_fits c.args.self.now.topology.now c.args.self.now.symbols f c.args.scope) fs) c.as_slice-in-Or.ensures
    ∙ (sym (fits_or c.args.self.now.topology.now c.args.self.now.symbols parts c.args.scope) ∙ ap (λ f. formula_fits c.args.self.now.topology.now c.args.self.now.symbols f c.args.scope) (sym c.in-Or.is))))
