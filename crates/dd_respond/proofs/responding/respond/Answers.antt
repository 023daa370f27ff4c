use Rattle.dd_values.specs.lemmas.Results.{if_ok_both}
use Rattle.dd_certificate.specs.Bounds.{IsWritable}
use Rattle.dd_respond.specs.Right.{IsRightTo, IsResponse}
use Rattle.dd_respond.proofs.responding.respond.Goals as goal

pub returns-clause-answer : goal.returns-clause-answer
returns-clause-answer g c =
    let l = c.args.question.now.limits in
    let k = c.args.question.now.question in
    if_ok_both c.by_kind.result (IsRightTo l k) IsWritable (IsResponse l k) (λ a right writable. record { right = right; writable = writable })
    c.by_kind.ensures.right c.by_kind.ensures.writable

pub returns-clause-engines : goal.returns-clause-engines
returns-clause-engines g c = record { kept = c.by_kind.ensures.kept; asked = c.by_kind.ensures.asked }
