use Rattle.std.proofs.Common.{◌≡◌, ◌-◌, ◌<◌, true, length, refl, ap, arith, rules}
use Rattle.std.specs.Prelude.{◌↔◌}
use Rattle.dd_checker.specs.declared.verdict.Verdict.TheVariants.{Accepted}
use Rattle.dd_session.proofs.Judging.{has_query_at, judged}
use Rattle.dd_session.proofs.checking.is_accepted.Goals as goal

pub check_answer-requires : goal.check_answer-requires
check_answer-requires c =
    let less : c.args.number - 1 < length c.args.script.now.queries =
    omega (arith, c.requires, ap length c.queries-queries.ensures.value, c.if-place-queries.false) in
    has_query_at c.args.script.now c.args.number c.requires less

pub returns : goal.returns
returns c =
    let less : c.args.number - 1 < length c.args.answers.now = omega (arith, c.requires, c.if-place-answers.false) in
    let same : (c.eq.result ≡ true) ↔ (c.in_ok-verdict.verdict ≡ Accepted) = search rules in
    judged c.args.script.now c.args.answers.now c.args.number (c.args.number - 1) c.index-answers-place.result c.in_ok-verdict.verdict c.eq.result
    refl less c.index-answers-place.is c.in_ok-verdict.ensures.exact same
