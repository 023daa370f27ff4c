use Rattle.std.proofs.Common.{◌≤◌, ℕ, length, subst}
use Rattle.dd_lattice.specs.declared.position.Cell.{Cell}
use Rattle.dd_formula.specs.{LocalRule.LocalRule, declared.automaton.Cases.Cases}
use Rattle.dd_formula.specs.lemmas.CasesLaws.{case_of}
use Rattle.dd_circuit.specs.Circuits.{Network, size}
use Rattle.dd_compile.specs.{Wiring.Wiring, lemmas.Progress.Extends-trans}
use Rattle.dd_compile.specs.lemmas.CaseRules.{ruling_start, ruling_step, ruling_end, case_node, case_wired, case_few, size_more}
use Rattle.dd_compile.proofs.values.compile_rules.Goals as goal

pub compile_rule-requires : goal.compile_rule-requires
compile_rule-requires c =
    let cases : Cases = c.args.cases.now in
    let w : Wiring = c.args.inputs.now in
    let at : Cell = c.args.at.now in
    let start : Network = c.args.circuit.now in
    let now : Network = c.loop-rule.circuit in
    let signals = c.loop-rule.signals.items in
    let i = c.loop-rule.rule-index in
    let case : LocalRule × ℕ = c.loop-rule-item.result in
    let item = case_of cases.cases _ i case c.as_slice-rule-items.ensures c.loop-rule-item.is c.loop-rule-test.true in
    record {
      node = case_node (size start) w cases at c.requires.wired i case item.below item.is;
      near = c.requires.near;
      wired = case_wired (size start) (size now) w cases at c.requires.wired i case (size_more w cases at i start now signals case c.loop-rule.invariant item.below item.is) item.below item.is;
      few = case_few w cases at i start now signals case c.loop-rule.invariant item.below item.is c.requires.few;
    }

pub loop-rule-init : goal.loop-rule-init
loop-rule-init c = ruling_start c.args.inputs.now c.args.cases.now c.args.at.now c.args.circuit.now c.new-signals.result.items c.new-signals.ensures.items

pub loop-rule-preserved : goal.loop-rule-preserved
loop-rule-preserved c =
    let cases : Cases = c.args.cases.now in
    let w : Wiring = c.args.inputs.now in
    let at : Cell = c.args.at.now in
    let i = c.loop-rule.rule-index in
    let case : LocalRule × ℕ = c.loop-rule-item.result in
    let item = case_of cases.cases _ i case c.as_slice-rule-items.ensures c.loop-rule-item.is c.loop-rule-test.true in
    let e = c.in_ok-signal.ensures in
    ruling_step w cases at i c.args.circuit.now c.loop-rule.circuit c.loop-rule.signals.items case c.loop-rule.invariant item.below item.is
    c.compile_rule.new.circuit c.push.new.self.items c.in_ok-signal.signal e.extends e.signal e.gates e.in_range e.says c.in_ok-push.ensures.items

pub returns : goal.returns
returns c =
    let cases : Cases = c.args.cases.now in
    let p = c.loop-rule.invariant in
    let past : length cases.cases ≤ c.loop-rule.rule-index = subst (λ xs. length xs ≤ c.loop-rule.rule-index) c.as_slice-rule-items.ensures c.loop-rule-test.false in
    let e = ruling_end c.args.inputs.now cases c.args.at.now c.loop-rule.rule-index c.args.circuit.now c.loop-rule.circuit c.loop-rule.signals.items p past in
    record { extends = p.extends; gates = e.gates; signals = e.signals_are; in_range = p.in_range; says = e.says }

pub returns-in_err-push-clause-extends : goal.returns-in_err-push-clause-extends
returns-in_err-push-clause-extends c =
    Extends-trans c.args.circuit.now c.loop-rule.circuit c.compile_rule.new.circuit c.loop-rule.invariant.extends c.compile_rule.ensures.extends

pub returns-in_err-signal-clause-extends : goal.returns-in_err-signal-clause-extends
returns-in_err-signal-clause-extends c =
    Extends-trans c.args.circuit.now c.loop-rule.circuit c.compile_rule.new.circuit c.loop-rule.invariant.extends c.compile_rule.ensures.extends
