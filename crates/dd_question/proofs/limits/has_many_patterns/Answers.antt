use Rattle.std.proofs.Common.{◌≡◌, ℕ, Bool, true, false, sym, ◌∙◌, arith}
use Rattle.std.proofs.lemmas.Bool.{lt-ltb, le-ltb}
use Rattle.std.specs.Prelude.{nat_lt}
use Rattle.dd_counts.specs.Rules.{pattern_count, most_patterns}
use Rattle.dd_question.proofs.{CutLaws.passes, LimitLaws.none_more, LimitLaws.some_at}
use Rattle.dd_question.proofs.limits.has_many_patterns.Goals as goal

pub returns-then-patterns-gt-MOST_PATTERNS : goal.returns-then-patterns-gt-MOST_PATTERNS
returns-then-patterns-gt-MOST_PATTERNS c =
    let rule = c.args.rule.now in
    let n = c.loop-node.node in
    let many : ℕ → Bool = λ a. nat_lt most_patterns (pattern_count rule a) in
    let here : many n ≡ true = sym (passes most_patterns (pattern_count rule n) c.patterns.result c.patterns.ensures) ∙ lt-ltb _ _ (omega arith) in
    sym (some_at many rule.nodes n (omega arith) here)

pub loop-node-preserved : goal.loop-node-preserved
loop-node-preserved c =
    let rule = c.args.rule.now in
    let n = c.loop-node.node in
    let many : ℕ → Bool = λ a. nat_lt most_patterns (pattern_count rule a) in
    let here : many n ≡ false = sym (passes most_patterns (pattern_count rule n) c.patterns.result c.patterns.ensures) ∙ le-ltb _ _ (omega arith) in
    none_more many n c.loop-node.invariant here
