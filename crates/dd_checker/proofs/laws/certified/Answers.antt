use Rattle.std.proofs.Common.{◌<◌, length, ap, arith}
use Rattle.dd_checker.proofs.Certifying.{none_truthful, one_more, all_truthful}
use Rattle.dd_checker.proofs.Verdicts.{item_stands, item_is}
use Rattle.dd_checker.proofs.laws.certified.Goals as goal

pub loop-at-init : goal.loop-at-init
loop-at-init c = none_truthful c.args.script.now

pub query_certified-requires : goal.query_certified-requires
query_certified-requires c =
    let within : c.loop-at.at < length c.args.script.now.queries = omega (arith, c.loop-at-test.true, ap length c.queries-queries.ensures.value) in
    item_stands c.queries-queries.result.now c.args.script.now.queries c.loop-at.at c.index-queries-at.result c.queries-queries.ensures.value c.index-queries-at.is within

pub loop-at-preserved : goal.loop-at-preserved
loop-at-preserved c =
    let within : c.loop-at.at < length c.args.script.now.queries = omega (arith, c.loop-at-test.true, ap length c.queries-queries.ensures.value) in
    one_more c.args.script.now c.loop-at.at c.index-queries-at.result
    (item_is c.queries-queries.result.now c.args.script.now.queries c.loop-at.at c.index-queries-at.result c.queries-queries.ensures.value c.index-queries-at.is within)
    c.query_certified.ensures c.loop-at.invariant

pub returns : goal.returns
returns c =
    all_truthful c.args.script.now c.loop-at.at (omega (arith, c.loop-at-test.false, ap length c.queries-queries.ensures.value)) c.loop-at.invariant
