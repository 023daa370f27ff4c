use Rattle.std.proofs.Common.{◌≡◌, true, rules}
use Rattle.std.specs.Prelude.{◌↔◌}
use Rattle.dd_checker.specs.declared.verdict.Verdict.TheVariants.{Accepted}
use Rattle.dd_examples.proofs.Checked.{right_as}
use Rattle.dd_examples.proofs.checking.is_right.Goals as goal

pub returns : goal.returns
returns c =
    let same : (c.eq.result ≡ true) ↔ (c.in_ok-verdict.verdict ≡ Accepted) = search rules in
    right_as c.args.script.now c.args.answer.now c.args.before _ c.in_ok-verdict.verdict c.eq.result
    (search rules) c.in_ok-verdict.ensures.exact c.in_ok-verdict.ensures.claim same
