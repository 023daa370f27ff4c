use Rattle.std.proofs.Common.{refl}
use Rattle.dd_faults.specs.Commands.{case_faults}
use Rattle.dd_meanings.specs.Definitions.{case_of}
use Rattle.dd_meanings.proofs.{Nothing.none_from, Making.made_item}
use Rattle.dd_meanings.proofs.definitions.cases_of.Goals as goal

pub loop-case-preserved : goal.loop-case-preserved
loop-case-preserved c =
    let none = none_from (case_faults c.args.context.now) c.args.cases.now c.loop-case.case-index c.case-item.result c.loop-case-test.true c.case-item.is c.loop-case.invariant.1 in
    (made_item (case_of c.args.context.now) c.args.cases.now c.loop-case.case-index c.case-item.result c.loop-case.made _ _ c.loop-case-test.true c.case-item.is c.loop-case.invariant.0 (rw (c.in_ok-condition.ensures, c.number_in-symbol.ensures) refl) c.in_ok-push.ensures.ok, none.1)
