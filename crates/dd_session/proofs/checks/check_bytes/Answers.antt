use Rattle.std.proofs.Common.{◌≡◌, refl, rules, subst}
use Rattle.dd_output.specs.declared.fault.CertificateFault.TheVariants as faults
use Rattle.dd_output.specs.Offsets.{IsOutputFault}
use Rattle.dd_session.specs.Checks.{offset_line}
use Rattle.dd_session.proofs.CheckedOver.{same_over, offset_over}
use Rattle.dd_session.proofs.checks.check_bytes.Goals as goal

pub returns-in-Ok-clause-checked : goal.returns-in-Ok-clause-checked
returns-in-Ok-clause-checked g c = same_over _ c.args.bytes.now _ _ c.in-Ok.ensures.1 c.check_output.ensures.checked

pub returns-in-Ok-offset_line-clause-checked : goal.returns-in-Ok-offset_line-clause-checked
returns-in-Ok-offset_line-clause-checked g c =
    let is : c.as_bytes.result.now ≡ offset_line c.in-Err-Malformed.offset = search rules in
    let at : c.in-Err-Malformed.field-0 ≡ faults.Malformed c.in-Err-Malformed.offset = search rules in
    offset_over _ c.args.bytes.now (offset_line c.in-Err-Malformed.offset) c.as_bytes.result.now c.in-Err-Malformed.offset _
    (subst (IsOutputFault c.args.bytes.now) at c.in-Err-Malformed.ensures) refl is c.refuse.ensures.wrote
