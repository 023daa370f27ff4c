use Rattle.std.proofs.Common.{◌≡◌, Bool, sym, ◌∙◌, ap, subst}
use Rattle.dd_session.specs.{Answers.has_unknown, Sides.status_of, checking.Judged.checked_status}
use Rattle.dd_session.proofs.Judging.{unknown_any}
use Rattle.dd_session.proofs.checks.checked_status.Goals as goal

pub returns-then-accepted : goal.returns-then-accepted
returns-then-accepted c =
    subst (λ (b : Bool). c.status_of.result ≡ checked_status b (has_unknown c.args.answers.now)) (sym c.if-accepted.true)
    (c.status_of.ensures ∙ ap status_of (c.has_unknown.ensures ∙ unknown_any c.args.answers.now))
