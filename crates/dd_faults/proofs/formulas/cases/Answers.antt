use Rattle.std.proofs.Common.{arith}
use Rattle.dd_faults.specs.Commands.{case_faults}
use Rattle.dd_faults.proofs.Noting.{noted_item, noted_both}
use Rattle.dd_faults.proofs.formulas.cases.Goals as goal

pub loop-case-preserved : goal.loop-case-preserved
loop-case-preserved c =
    noted_item (case_faults c.args.context.now) c.args.cases.now c.loop-case.case-index c.case-item.result c.args.found.now c.loop-case.found c.note_missing.new.found c.loop-case-test.true c.case-item.is c.loop-case.invariant
    (grind (arith, noted_both))
