use Rattle.std.proofs.Common.{◌<◌, length, arith}
use Rattle.dd_fraction.specs.Exact.{inverse}
use Rattle.dd_simplex.proofs.CellSteps.{divide_step}
use Rattle.dd_simplex.proofs.line.divide.Goals as goal

pub loop-i-preserved : goal.loop-i-preserved
loop-i-preserved c =
    let p : c.loop-i.i < length c.args.cells.now = omega arith in
    let s = divide_step (inverse c.args.by.now) c.args.cells.now c.loop-i.cells c.loop-i.i c.index-cells-i.result c.in-Some.quotient p c.index-cells-i.is c.loop-i.invariant.fits c.loop-i.invariant.done c.in-Some.ensures in
    record { fits = s.0; done = s.1 }
