use Rattle.std.proofs.Common.{◌<◌, length, arith, refl, sym, ap, ◌∙◌}
use Rattle.dd_simplex.specs.table.Lines.{changed_line, does_changed_fit}
use Rattle.dd_simplex.proofs.CellSteps.{in_place_step}
use Rattle.dd_simplex.proofs.line.substitute_each.Goals as goal

pub loop-i-preserved : goal.loop-i-preserved
loop-i-preserved c =
    let p : c.loop-i.i < length c.args.lines.now = omega arith in
    let a = c.if-not-substitute.ensures in
    let at = c.index-lines-i.is in
    let f = changed_line c.args.e c.args.pivot.now in
    let s = in_place_step f (does_changed_fit c.args.e c.args.pivot.now) c.args.lines.now c.loop-i.lines c.loop-i.i c.index-lines-i.result c.substitute.new.self p at c.loop-i.invariant.fits c.loop-i.invariant.done (ap (does_changed_fit c.args.e c.args.pivot.now) at ∙ sym a.fits) (a.value refl ∙ ap f (sym at)) in
    record { fits = s.0; done = s.1 }
