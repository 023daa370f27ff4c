use Rattle.std.proofs.Common.{◌≤◌, ℕ, List, length, take, sym, subst}
use Rattle.std.proofs.lemmas.List.{take_all, Elements.All-push}
use Rattle.std.specs.List.{All}
use Rattle.dd_formula.specs.LocalRule.{LocalRule, IsRule}
use Rattle.dd_formula.specs.lemmas.CasesLaws.{case_of}
use Rattle.dd_compile.specs.lemmas.CaseGates.{taken_is}
use Rattle.dd_compile.proofs.laws.rules_are_kept.Goals as goal

pub loop-rule-preserved : goal.loop-rule-preserved
loop-rule-preserved c =
    let cases : List (LocalRule × ℕ) = c.args.cases.now.cases in
    let i = c.loop-rule.rule-index in
    let case : LocalRule × ℕ = c.loop-rule-item.result in
    let item = case_of cases _ i case c.as_slice-rule-items.ensures c.loop-rule-item.is c.loop-rule-test.true in
    subst (All (λ (x : LocalRule × ℕ). IsRule x.0)) (sym (taken_is cases i case item.below item.is))
    (All-push (λ (x : LocalRule × ℕ). IsRule x.0) (take i cases) case c.loop-rule.invariant c.nodes-nodes.ensures.kept)

pub returns : goal.returns
returns c =
    let cases : List (LocalRule × ℕ) = c.args.cases.now.cases in
    let i = c.loop-rule.rule-index in
    subst (All (λ (x : LocalRule × ℕ). IsRule x.0)) (take_all i cases (subst (λ xs. length xs ≤ i) c.as_slice-rule-items.ensures c.loop-rule-test.false)) c.loop-rule.invariant
