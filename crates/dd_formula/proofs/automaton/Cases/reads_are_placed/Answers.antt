use Rattle.std.proofs.Common.{◌≤◌, ℕ, List, length, take, ap, sym, ◌∙◌, subst}
use Rattle.std.proofs.lemmas.List.{take_all}
use Rattle.std.specs.List.{list_all}
use Rattle.dd_lattice.specs.lemmas.InOrderLaws.{list_all-in_order}
use Rattle.dd_formula.specs.{LocalRule.LocalRule, LocalRule.reads_at, Automata.is_cell_of, Automata.cases_reads, lemmas.Cuts.flat_more}
use Rattle.dd_formula.specs.lemmas.CasesLaws.{case_of}
use Rattle.dd_formula.specs.lemmas.AutomatonLaws.{rule_reads, case_has, passes_both}
use Rattle.dd_formula.proofs.automaton.Cases.reads_are_placed.Goals as goal

pub loop-rule-preserved : goal.loop-rule-preserved
loop-rule-preserved c = λ s fit a below_nodes.
    let cases : List (LocalRule × ℕ) = c.args.self.now.cases in
    let i = c.loop-rule.rule-index in
    let case : LocalRule × ℕ = c.loop-rule-item.result in
    let item = case_of cases _ i case c.as_slice-rule-items.ensures c.loop-rule-item.is c.loop-rule-test.true in
    ap (list_all (is_cell_of s)) (flat_more (λ (x : LocalRule × ℕ). reads_at x.0 a) cases i case item.below item.is)
    ∙ passes_both (is_cell_of s) (cases_reads (take i cases) a) (reads_at case.0 a) (c.loop-rule.invariant s fit a below_nodes)
    (sym (list_all-in_order (is_cell_of s) (reads_at case.0 a)) ∙ rule_reads s case.0 a c.nodes-nodes.ensures.kept (case_has s cases c.args.self.now.otherwise i case fit item.below item.is) below_nodes)

pub returns : goal.returns
returns c = λ s fit a below_nodes.
    let cases : List (LocalRule × ℕ) = c.args.self.now.cases in
    let i = c.loop-rule.rule-index in
    ap (λ xs. list_all (is_cell_of s) (cases_reads xs a)) (sym (take_all i cases (subst (λ xs. length xs ≤ i) c.as_slice-rule-items.ensures c.loop-rule-test.false)))
    ∙ c.loop-rule.invariant s fit a below_nodes
