use Rattle.std.proofs.Common.{◌≡◌, ◌-◌, Some, length, ap, arith}
use Rattle.dd_script.specs.Questions.{query_at}
use Rattle.dd_checker.proofs.Verdicts.{certificate_for, index_within, item_stands, item_is, claim_at, accepted, accepts, rejects}
use Rattle.dd_checker.proofs.answering.check_answer.Goals as goal

pub bounds-queries-number : goal.bounds-queries-number
bounds-queries-number c =
    let within = index_within c.args.script.now c.args.query c.requires in
    omega (arith, within, ap length c.queries-queries.ensures.value)

pub query_certified-requires : goal.query_certified-requires
query_certified-requires c =
    item_stands c.queries-queries.result.now c.args.script.now.queries (c.args.query - 1) c.index-queries-number.result c.queries-queries.ensures.value
    c.index-queries-number.is (index_within c.args.script.now c.args.query c.requires)

pub pairs-requires : goal.pairs-requires
pairs-requires c =
    item_stands c.queries-queries.result.now c.args.script.now.queries (c.args.query - 1) c.index-queries-number.result c.queries-queries.ensures.value
    c.index-queries-number.is (index_within c.args.script.now c.args.query c.requires)

pub question-question-requires-clause-query : goal.question-question-requires-clause-query
question-question-requires-clause-query c =
    item_stands c.queries-queries.result.now c.args.script.now.queries (c.args.query - 1) c.index-queries-number.result c.queries-queries.ensures.value
    c.index-queries-number.is (index_within c.args.script.now c.args.query c.requires)

pub returns-then-accepted : goal.returns-then-accepted
returns-then-accepted c =
    let s = c.args.script.now in
    let n = c.args.query in
    let a = c.args.answer.now in
    let q = c.index-queries-number.result in
    let is : query_at s n ≡ Some q =
    item_is c.queries-queries.result.now s.queries (n - 1) q c.queries-queries.ensures.value c.index-queries-number.is (index_within s n c.requires) in
    let k = c.question-question.result in
    let told = certificate_for s q k.question a k.limits c.question-question.ensures.asks.is c.question-question.ensures.limits c.in_ok-accepted.accepted
    c.in_ok-accepted.ensures in
    record {
      exact = accepts s n q is a c.in_ok-accepted.accepted told c.if-accepted.true;
      claim = λ _. claim_at s n q is a (c.query_certified.ensures a) (accepted s n q is a c.in_ok-accepted.accepted told c.if-accepted.true);
    }

pub returns : goal.returns
returns c =
    let s = c.args.script.now in
    let n = c.args.query in
    let a = c.args.answer.now in
    let q = c.index-queries-number.result in
    let is : query_at s n ≡ Some q =
    item_is c.queries-queries.result.now s.queries (n - 1) q c.queries-queries.ensures.value c.index-queries-number.is (index_within s n c.requires) in
    let k = c.question-question.result in
    let told = certificate_for s q k.question a k.limits c.question-question.ensures.asks.is c.question-question.ensures.limits c.in_ok-accepted.accepted
    c.in_ok-accepted.ensures in
    record {
      exact = rejects s n q is a c.in_ok-accepted.accepted told c.if-accepted.false;
      claim = λ e. absurd (cc e);
    }
