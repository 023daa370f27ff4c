use Rattle.dd_session.proofs.Again.{run_accepted, status_same}
use Rattle.dd_session.proofs.laws.runs_are_accepted.Goals as goal

pub returns-clause-accepted : goal.returns-clause-accepted
returns-clause-accepted c = run_accepted c.right_is_certificate.ensures c.args.script.now c.certified.ensures

pub returns-clause-same_status : goal.returns-clause-same_status
returns-clause-same_status c = λ bytes text has status run short decides ended.
    status_same c.one_output.ensures c.one_script.ensures text short has
    (run_accepted c.right_is_certificate.ensures c.args.script.now c.certified.ensures bytes text has run) status decides ended
