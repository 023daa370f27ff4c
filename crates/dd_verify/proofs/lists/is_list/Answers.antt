use Rattle.std.proofs.Common.{sym, subst}
use Rattle.dd_evidence.specs.Lists.{IsForbiddenList}
use Rattle.dd_verify.proofs.lists.is_list.Goals as goal

pub returns : goal.returns
returns c =
    let x = c.args.rule.now in
    let made = c.in_ok-list.list in
    let patterns = c.args.patterns.now in
    let taken : IsForbiddenList x c.as_slice.result.now = subst (IsForbiddenList x) (sym c.as_slice.ensures) c.in_ok-list.ensures in (
      λ h. subst (IsForbiddenList x) (c.are_same.ensures.0 h) taken,
      λ is. c.are_same.ensures.1 (c.one_list.ensures x c.as_slice.result.now patterns taken is),
    )
