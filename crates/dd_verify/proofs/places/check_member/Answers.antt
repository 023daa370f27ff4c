use Rattle.dd_verify.proofs.Writable.{member_writable}
use Rattle.dd_verify.proofs.places.check_member.Goals as goal

pub returns : goal.returns
returns c =
    let exact = c.is_member_certificate.ensures in
    let writable = member_writable c.places_fit.ensures c.args.rule.now c.args.periodic.now c.nodes-nodes.ensures.kept c.symbols-symbols.ensures.kept
    c.requires c.args.answer.now in
    (λ h. (writable (exact.0 h), exact.0 h), λ both. exact.1 both.1)
