use Rattle.std.proofs.Common.{sym, ◌∙◌}
use Rattle.dd_simplex.proofs.{IdleLines.back_fractions, IdleLines.pivot_fractions, LineSteps.back_sizes}
use Rattle.dd_simplex.proofs.line.pivot_lines.Goals as goal

pub substitute_each-requires-2-clause-sizes : goal.substitute_each-requires-2-clause-sizes
substitute_each-requires-2-clause-sizes c =
    back_sizes c.args.lines.now c.in-Some.back.now c.in-Some.leaving.now c.solve.new.self c.args.r c.args.entering c.args.e c.requires.line
    (sym c.split_at_mut-front.ensures.back ∙ c.in-Some.ensures.cases.0) c.requires.sizes (c.solve.ensures.value c.if-not-solve.false)

pub substitute_each-requires-clause-pivot : goal.substitute_each-requires-clause-pivot
substitute_each-requires-clause-pivot c =
    pivot_fractions c.args.lines.now c.in-Some.back.now c.in-Some.leaving.now c.solve.new.self c.args.r c.args.entering c.args.e c.requires.line
    (sym c.split_at_mut-front.ensures.back ∙ c.in-Some.ensures.cases.0) c.requires.fractions c.requires.place c.requires.cell
    (sym c.solve.ensures.fits ∙ c.if-not-solve.false) (c.solve.ensures.value c.if-not-solve.false)

pub substitute_each-requires-2-clause-fractions : goal.substitute_each-requires-2-clause-fractions
substitute_each-requires-2-clause-fractions c =
    back_fractions c.args.lines.now c.in-Some.back.now c.in-Some.leaving.now c.args.r c.requires.line
    (sym c.split_at_mut-front.ensures.back ∙ c.in-Some.ensures.cases.0) c.requires.fractions

pub substitute_each-requires-2-clause-pivot : goal.substitute_each-requires-2-clause-pivot
substitute_each-requires-2-clause-pivot c =
    pivot_fractions c.args.lines.now c.in-Some.back.now c.in-Some.leaving.now c.solve.new.self c.args.r c.args.entering c.args.e c.requires.line
    (sym c.split_at_mut-front.ensures.back ∙ c.in-Some.ensures.cases.0) c.requires.fractions c.requires.place c.requires.cell
    (sym c.solve.ensures.fits ∙ c.if-not-solve.false) (c.solve.ensures.value c.if-not-solve.false)
