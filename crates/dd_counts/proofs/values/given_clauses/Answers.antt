use Rattle.std.proofs.Common.{◌≡◌, ◌≤◌, ◌+◌, List, ℕ, map, length, take, ap, ◌∙◌, subst, arith}
use Rattle.std.proofs.lemmas.{Grind.common_steps, List.take_all}
use Rattle.std.specs.List.{range_with_len}
use Rattle.dd_expansion.specs.Leaves.{clause_count, total}
use Rattle.dd_formula.specs.{LocalRule.LocalRule, LocalRule.expansion_at, Counts.cut, lemmas.Cuts.total_more, ValueCounts.case_clauses}
use Rattle.dd_formula.specs.lemmas.CasesLaws.{case_of}
use Rattle.dd_formula.specs.lemmas.Ranges.{total_push}
use Rattle.dd_counts.proofs.ValueLaws.{round, by_case}
use Rattle.dd_counts.proofs.values.given_clauses.Goals as goal

pub loop-rule-preserved : goal.loop-rule-preserved
loop-rule-preserved c =
    let cases : List (LocalRule × ℕ) = c.args.cases.now.cases in
    let n = c.args.node in
    let i = c.loop-rule.rule-index in
    let case : LocalRule × ℕ = c.loop-rule-item.result in
    let item = case_of cases _ i case c.as_slice-rule-items.ensures c.loop-rule-item.is c.loop-rule-test.true in
    let more : case_clauses (take (i + 1) cases) n ≡ case_clauses (take i cases) n + clause_count (expansion_at case.0 n) =
    total_more (λ (x : LocalRule × ℕ). clause_count (expansion_at x.0 n)) cases i case item.below item.is in
    record {
      choosing = omega (arith, c.loop-rule.invariant.choosing);
      clauses =
          round c.args.limit c.loop-rule.clauses c.plus.result c.plus-clauses-in-loop-rule.result c.cut_off-gates.result c.cut_off.result
          (case_clauses (take i cases) n) (total (map (λ k. k + 4) (range_with_len 0 i))) (2 + c.args.symbols) (clause_count (expansion_at case.0 n)) i
          (case_clauses (take (i + 1) cases) n) (total (map (λ k. k + 4) (range_with_len 0 (i + 1))))
          c.loop-rule.invariant.clauses (c.cut_off-gates.ensures ∙ ap (cut c.args.limit) c.clause_count.ensures)
          (c.cut_off.ensures ∙ ap (cut c.args.limit) c.loop-rule.invariant.choosing)
          c.plus.ensures c.plus-clauses-in-loop-rule.ensures more (total_push (λ k. k + 4) i);
    }

pub returns : goal.returns
returns c =
    let cases : List (LocalRule × ℕ) = c.args.cases.now.cases in
    let n = c.args.node in
    let i = c.loop-rule.rule-index in
    let same : c.as_slice-rule-items.result.now ≡ cases = c.as_slice-rule-items.ensures in
    let past : length cases ≤ i = subst (λ xs. length xs ≤ i) same c.loop-rule-test.false in
    let most : i ≤ length cases = subst (λ xs. i ≤ length xs) same c.loop-rule.auto.rule-index-end in
    let all : i ≡ length cases = omega arith in
    let sum : ℕ → ℕ = λ k. total (map (λ j. j + 4) (range_with_len 0 k)) in
    by_case c.args.limit c.args.symbols (length cases) (sum i) (case_clauses cases n) c.loop-rule.clauses (ap sum all)
    (c.loop-rule.invariant.clauses ∙ ap (λ xs. cut c.args.limit (case_clauses xs n + sum i + (2 + c.args.symbols))) (take_all i cases past))

pub clause_count-requires : goal.clause_count-requires
clause_count-requires c = grind (arith, common_steps)
