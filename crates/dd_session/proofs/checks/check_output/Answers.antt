use Rattle.dd_session.proofs.CheckedOver.{script_over, few_bytes, same_spelled}
use Rattle.dd_session.proofs.checks.check_output.Goals as goal

pub parse-requires : goal.parse-requires
parse-requires g c = few_bytes c.args.output.now c.as_slice.result.now c.requires c.as_slice.ensures

pub check_script-requires-clause-spelled : goal.check_script-requires-clause-spelled
check_script-requires-clause-spelled g c = same_spelled c.args.output.now c.as_slice.result.now _ c.as_slice.ensures c.in-Ok.ensures.spelled

pub returns-in-Err-clause-checked : goal.returns-in-Err-clause-checked
returns-in-Err-clause-checked g c =
    script_over _ c.args.output.now c.as_slice.result.now c.in-Err.fault.command c.in-Err.fault.kind _
    c.requires c.as_slice.ensures c.in-Err.ensures.refused c.refuse_fault.ensures.wrote
