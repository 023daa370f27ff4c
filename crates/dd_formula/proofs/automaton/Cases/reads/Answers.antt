use Rattle.std.proofs.Common.{◌≡◌, ◌≤◌, List, ◌++◌, ℕ, length, ap, sym, ◌∙◌, subst}
use Rattle.std.proofs.lemmas.{Result.IfOk-weaker, List.take_all}
use Rattle.std.specs.List.{list_all, flat_map}
use Rattle.dd_lattice.specs.{InOrder.in_order, lemmas.InOrderLaws.list_all-in_order}
use Rattle.dd_formula.specs.{LocalRule.LocalRule, LocalRule.cells_at, Automata.is_cell_of, lemmas.Cuts.flat_more}
use Rattle.dd_formula.specs.lemmas.CasesLaws.{case_of}
use Rattle.dd_formula.specs.lemmas.AutomatonLaws.{reads_by_cases, rule_reads, case_has, passes_both}
use Rattle.dd_formula.proofs.automaton.Cases.reads.Goals as goal

pub loop-rule-preserved : goal.loop-rule-preserved
loop-rule-preserved c =
    let cases : List (LocalRule × ℕ) = c.args.self.now.cases in
    let i = c.loop-rule.rule-index in
    let case : LocalRule × ℕ = c.loop-rule-item.result in
    let item = case_of cases _ i case c.as_slice-rule-items.ensures c.loop-rule-item.is c.loop-rule-test.true in
    let found : c.extend_from_slice.new.self.items ≡ c.loop-rule.found.items ++ cells_at case.0 c.args.node =
    c.in_ok-extend_from_slice.ensures.items ∙ ap (λ ds. c.loop-rule.found.items ++ ds) c.reads.ensures.value in
    record {
      list =
          found
          ∙ (ap (λ ds. ds ++ cells_at case.0 c.args.node) c.loop-rule.invariant.list
          ∙ sym (flat_more (λ (x : LocalRule × ℕ). cells_at x.0 c.args.node) cases i case item.below item.is));
      placed = λ s fit node.
          ap (list_all (is_cell_of s)) found
          ∙ passes_both (is_cell_of s) c.loop-rule.found.items (cells_at case.0 c.args.node) (c.loop-rule.invariant.placed s fit node)
          (rule_reads s case.0 c.args.node c.reads.ensures.kept (case_has s cases c.args.self.now.otherwise i case fit item.below item.is) node);
    }

pub returns-clause-list : goal.returns-clause-list
returns-clause-list c =
    let cases : List (LocalRule × ℕ) = c.args.self.now.cases in
    let i = c.loop-rule.rule-index in
    let all : c.deref.result.now ≡ flat_map (λ (x : LocalRule × ℕ). cells_at x.0 c.args.node) cases =
    c.deref.ensures.value
    ∙ (c.loop-rule.invariant.list ∙ ap (flat_map (λ (x : LocalRule × ℕ). cells_at x.0 c.args.node)) (take_all i cases (subst (λ xs. length xs ≤ i) c.as_slice-rule-items.ensures c.loop-rule-test.false))) in
    IfOk-weaker c.in_order.result _ _ (λ v is. is ∙ (ap in_order all ∙ reads_by_cases cases c.args.node)) c.in_order.ensures.list

pub returns-clause-placed : goal.returns-clause-placed
returns-clause-placed c =
    IfOk-weaker c.in_order.result _ _ (λ v is s fit node.
    ap (list_all (is_cell_of s)) is
    ∙ (list_all-in_order (is_cell_of s) c.deref.result.now
    ∙ (ap (list_all (is_cell_of s)) c.deref.ensures.value ∙ c.loop-rule.invariant.placed s fit node))) c.in_order.ensures.list
