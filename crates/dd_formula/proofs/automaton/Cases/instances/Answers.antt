use Rattle.std.proofs.Common.{◌≡◌, ◌<◌, ◌≤◌, ◌+◌, List, ℕ, length, take, ap, sym, ◌∙◌, subst, arith}
use Rattle.std.proofs.lemmas.List.{take_all}
use Rattle.std.specs.List.{list_all}
use Rattle.dd_expansion.specs.Leaves.{instances}
use Rattle.dd_formula.specs.LocalRule.{LocalRule, expansion_at, reads_at, is_near}
use Rattle.dd_formula.specs.lemmas.CasesLaws.{case_of}
use Rattle.dd_formula.specs.{Automata.case_instances, Automata.cases_reads, lemmas.Cuts.total_more, lemmas.Cuts.flat_more}
use Rattle.dd_formula.specs.lemmas.AutomatonLaws.{case_has, rule_nodes, passes_both}
use Rattle.dd_formula.proofs.automaton.Cases.instances.Goals as goal

pub instances-requires : goal.instances-requires
instances-requires c =
    let cases : List (LocalRule × ℕ) = c.args.self.now.cases in
    let i = c.loop-rule.rule-index in
    let case : LocalRule × ℕ = c.loop-rule-item.result in
    let item = case_of cases _ i case c.as_slice-rule-items.ensures c.loop-rule-item.is c.loop-rule-test.true in
    let nodes = rule_nodes c.requires.setting case.0 (case_has c.requires.setting cases c.args.self.now.otherwise i case c.requires.fit item.below item.is) in
    let node : c.args.node < case.0.nodes = omega (arith, nodes, c.requires.below) in
    omega (arith, ap instances c.expansion.ensures.value, c.expansion.ensures.kept.small c.args.node node)

pub overflow_add-instances : goal.overflow_add-instances
overflow_add-instances c =
    let cases : List (LocalRule × ℕ) = c.args.self.now.cases in
    let i = c.loop-rule.rule-index in
    let case : LocalRule × ℕ = c.loop-rule-item.result in
    let item = case_of cases _ i case c.as_slice-rule-items.ensures c.loop-rule-item.is c.loop-rule-test.true in
    let nodes = rule_nodes c.requires.setting case.0 (case_has c.requires.setting cases c.args.self.now.otherwise i case c.requires.fit item.below item.is) in
    let node : c.args.node < case.0.nodes = omega (arith, nodes, c.requires.below) in
    omega (arith, ap instances c.expansion.ensures.value, c.instances.ensures, c.expansion.ensures.kept.small c.args.node node)

pub loop-rule-preserved : goal.loop-rule-preserved
loop-rule-preserved c =
    let cases : List (LocalRule × ℕ) = c.args.self.now.cases in
    let i = c.loop-rule.rule-index in
    let case : LocalRule × ℕ = c.loop-rule-item.result in
    let item = case_of cases _ i case c.as_slice-rule-items.ensures c.loop-rule-item.is c.loop-rule-test.true in
    let more : case_instances c.args.node (take (i + 1) cases) ≡ case_instances c.args.node (take i cases) + (instances (expansion_at case.0 c.args.node) + 1) =
    total_more (λ (x : LocalRule × ℕ). instances (expansion_at x.0 c.args.node) + 1) cases i case item.below item.is in
    let nodes = rule_nodes c.requires.setting case.0 (case_has c.requires.setting cases c.args.self.now.otherwise i case c.requires.fit item.below item.is) in
    let node : c.args.node < case.0.nodes = omega (arith, nodes, c.requires.below) in
    record {
      count = omega (arith, more, c.plus-sum.ensures, c.loop-rule.invariant.count, c.instances.ensures, ap instances c.expansion.ensures.value);
      near =
          ap (list_all is_near) (flat_more (λ (x : LocalRule × ℕ). reads_at x.0 c.args.node) cases i case item.below item.is)
          ∙ passes_both is_near (cases_reads (take i cases) c.args.node) (reads_at case.0 c.args.node) c.loop-rule.invariant.near
          (c.expansion.ensures.kept.short c.args.node node);
    }

pub returns-clause-near : goal.returns-clause-near
returns-clause-near c =
    let cases : List (LocalRule × ℕ) = c.args.self.now.cases in
    let past : length cases ≤ c.loop-rule.rule-index = subst (λ xs. length xs ≤ c.loop-rule.rule-index) c.as_slice-rule-items.ensures c.loop-rule-test.false in
    ap (λ xs. list_all is_near (cases_reads xs c.args.node)) (sym (take_all c.loop-rule.rule-index cases past)) ∙ c.loop-rule.invariant.near
