use Rattle.std.proofs.Common.{◌≡◌, ℕ, List, true, false, sym, ◌∙◌, subst, arith}
use Rattle.std.proofs.lemmas.Option.{none-some, same_Some}
use Rattle.dd_formula.specs.{LocalRule.LocalRule, LocalRule.is_true, lemmas.AutomatonLaws.case_has, lemmas.AutomatonLaws.rule_nodes}
use Rattle.dd_formula.specs.lemmas.CasesLaws.{case_of}
use Rattle.dd_formula.specs.lemmas.ValueLaws.{case_step, case_given, rule_symbols, told}
use Rattle.dd_pattern.specs.Reading.{HasSymbolsBelow}
use Rattle.dd_formula.proofs.automaton.Cases.value.Goals as goal

pub truth-requires : goal.truth-requires
truth-requires g c =
    let cases : List (LocalRule × ℕ) = c.args.self.now.cases in
    let i = c.loop-rule.rule-index in
    let case : LocalRule × ℕ = c.loop-rule-item.result in
    let item = case_of cases _ i case c.as_slice-rule-items.ensures c.loop-rule-item.is c.loop-rule-test.true in
    let s = c.requires.setting in
    let has = case_has s cases c.args.self.now.otherwise i case c.requires.fit item.below item.is in
    let nodes = rule_nodes s case.0 has in record {
      node = omega (arith, nodes, c.requires.below);
      symbols = subst (λ n. HasSymbolsBelow n (g.R.Reads.symbols c.args.read.now)) (sym (rule_symbols s case.0 has)) c.requires.symbols;
    }

pub returns-in-Some-true : goal.returns-in-Some-true
returns-in-Some-true g c =
    let cases : List (LocalRule × ℕ) = c.args.self.now.cases in
    let i = c.loop-rule.rule-index in
    let case : LocalRule × ℕ = c.loop-rule-item.result in
    let look = g.R.Reads.symbols c.args.read.now in
    let at = c.args.at.now in
    let item = case_of cases _ i case c.as_slice-rule-items.ensures c.loop-rule-item.is c.loop-rule-test.true in
    let answer = told case.0 at look c.truth.result (case_given cases look at.position at.node i case c.requires.given item.below item.is) c.truth.ensures.value in
    let here : is_true case.0 at look ≡ true = same_Some (is_true case.0 at look) c.in-Some-true.field-0 (sym answer ∙ c.in-Some-true.is) ∙ c.in-Some-true.field-0-test in
    sym (c.loop-rule.invariant ∙ case_step cases c.args.self.now.otherwise look at i case true item.below item.is here)

pub loop-rule-preserved : goal.loop-rule-preserved
loop-rule-preserved g c =
    let cases : List (LocalRule × ℕ) = c.args.self.now.cases in
    let i = c.loop-rule.rule-index in
    let case : LocalRule × ℕ = c.loop-rule-item.result in
    let look = g.R.Reads.symbols c.args.read.now in
    let at = c.args.at.now in
    let item = case_of cases _ i case c.as_slice-rule-items.ensures c.loop-rule-item.is c.loop-rule-test.true in
    let answer = told case.0 at look c.truth.result (case_given cases look at.position at.node i case c.requires.given item.below item.is) c.truth.ensures.value in
    let here : is_true case.0 at look ≡ false = same_Some (is_true case.0 at look) c.in-Some-false.field-0 (sym answer ∙ c.in-Some-false.is) ∙ c.in-Some-false.field-0-test in
    c.loop-rule.invariant ∙ case_step cases c.args.self.now.otherwise look at i case false item.below item.is here

pub unreachable-requires : goal.unreachable-requires
unreachable-requires g c =
    let cases : List (LocalRule × ℕ) = c.args.self.now.cases in
    let i = c.loop-rule.rule-index in
    let case : LocalRule × ℕ = c.loop-rule-item.result in
    let look = g.R.Reads.symbols c.args.read.now in
    let at = c.args.at.now in
    let item = case_of cases _ i case c.as_slice-rule-items.ensures c.loop-rule-item.is c.loop-rule-test.true in
    let answer = told case.0 at look c.truth.result (case_given cases look at.position at.node i case c.requires.given item.below item.is) c.truth.ensures.value in
    absurd (none-some (is_true case.0 at look) (sym c.in-None.is ∙ answer))
