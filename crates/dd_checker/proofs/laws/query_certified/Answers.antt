use Rattle.std.proofs.Common.{ap, sym, map, ◌∙◌}
use Rattle.dd_pairs.specs.{Comparisons.pair_of, lemmas.QueryLaws.no_comparisons}
use Rattle.dd_checker.proofs.{Certifying.query_claims, Pairs.pairs_claim}
use Rattle.dd_checker.proofs.laws.query_certified.Goals as goal

pub question-question-requires-clause-pairs : goal.question-question-requires-clause-pairs
question-question-requires-clause-pairs c =
    let s = c.args.script.now in
    ap (map (pair_of s.known.setting)) (sym (no_comparisons s.rules s.automata c.args.query.now (sym c.asks_pairs.ensures ∙ c.if-asks_pairs.false)))

pub returns-then-asks_pairs : goal.returns-then-asks_pairs
returns-then-asks_pairs c =
    pairs_claim c.args.script.now c.limits-limits.ensures.kept c.sound_questions.ensures c.claims_hold_for_goals.ensures c.args.query.now (sym c.asks_pairs.ensures ∙ c.if-asks_pairs.true) c.requires

pub returns-else-asks_pairs : goal.returns-else-asks_pairs
returns-else-asks_pairs c =
    let k = c.question-question.result in
    query_claims c.args.script.now c.args.query.now k.question k.limits c.question-question.ensures.asks.is c.question-question.ensures.limits c.claims_hold.ensures
