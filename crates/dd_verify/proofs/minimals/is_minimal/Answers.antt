use Rattle.std.proofs.Common.{sym, subst}
use Rattle.dd_evidence.specs.Lists.{IsStarredList}
use Rattle.dd_verify.proofs.minimals.is_minimal.Goals as goal

pub returns : goal.returns
returns c =
    let x = c.args.rule.now in
    let patterns = c.args.patterns.now in
    let taken : IsStarredList x c.as_slice.result.now = subst (IsStarredList x) (sym c.as_slice.ensures) c.in_ok-list.ensures in (
      λ h. subst (IsStarredList x) (c.are_same.ensures.0 h) taken,
      λ is. c.are_same.ensures.1 (c.one_starred.ensures x c.as_slice.result.now patterns taken is),
    )
