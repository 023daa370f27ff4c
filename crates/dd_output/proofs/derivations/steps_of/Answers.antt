use Rattle.std.proofs.{Common.◌≡◌, Common.◌++◌, Common.◌∷◌, Common.[], lemmas.Result.err_from_is_err_and}
use Rattle.dd_output.specs.reading.{Stops.many_at, Grammar.step}
use Rattle.dd_output.proofs.Counts.{many_on, many_fails}
use Rattle.dd_output.proofs.derivations.steps_of.Goals as goal

pub loop-preserved : goal.loop-preserved
loop-preserved c =
    let pushed : c.push.new.self ≡ c.loop.steps ++ c.in_ok-step.step ∷ [] = c.in_ok-push.ensures.ok in
    rw pushed (many_on step.read step.least c.loop.steps c.args.count c.loop.counter c.loop.rest.now c.in_ok-step.step c.in_ok-step.after.now
    (many_at step.read step.least c.args.count c.args.bytes.now) c.loop-test.true c.in_ok-step.ensures c.loop.invariant)

pub returns-in_err-step : goal.returns-in_err-step
returns-in_err-step c =
    let p = err_from_is_err_and c.from_residual.result c.from_residual.ensures.1 in
    rw (p.1, p.2) (many_fails c.in_err-step.field-0.0 step.read step.least c.loop.steps c.args.count c.loop.counter c.loop.rest.now
    (many_at step.read step.least c.args.count c.args.bytes.now) c.loop-test.true c.in_err-step.ensures c.loop.invariant)
