use Rattle.std.proofs.lemmas.Result.{err_from_is_err_and}
use Rattle.dd_pairs.proofs.Making.{goes_on, stops}
use Rattle.dd_pairs.proofs.pairs.made.Goals as goal

pub returns-in_err-tested : goal.returns-in_err-tested
returns-in_err-tested c =
    let p = err_from_is_err_and c.from_residual.result c.from_residual.ensures.1 in
    rw (p.1, p.2) (stops c.args.known.now c.args.comparisons.now c.loop-comparison.comparison-index c.comparison-item.result c.loop-comparison-test.true c.comparison-item.is c.loop-comparison.pairs _ c.loop-comparison.invariant c.in_err-tested.ensures)

pub loop-comparison-preserved : goal.loop-comparison-preserved
loop-comparison-preserved c =
    goes_on c.args.known.now c.args.comparisons.now c.loop-comparison.comparison-index c.comparison-item.result c.loop-comparison-test.true c.comparison-item.is c.loop-comparison.pairs _ c.in_ok-tested.field-0 c.loop-comparison.invariant c.in_ok-tested.ensures c.in_ok-push.ensures.ok
