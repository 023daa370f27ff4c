use Rattle.std.proofs.Common.{◌∙◌, ap, arith}
use Rattle.std.specs.List.{list_all}
use Rattle.dd_lattice.specs.Cells.{shifted}
use Rattle.dd_circuit.specs.Circuits.{size}
use Rattle.dd_compile.specs.{Wiring.signals_of, RuleSignals.are_signals, RuleSignals.is_cell_wired, lemmas.FewGates.few_gates}
use Rattle.dd_compile.specs.lemmas.RuleWiring.{tested_reads}
use Rattle.dd_formula.specs.LocalRule.{expansion_at}
use Rattle.dd_compile.proofs.rules.reads_are_wired.Goals as goal

pub returns-clause-value : goal.returns-clause-value
returns-clause-value c =
    let n = size c.args.circuit.now in
    let w = c.args.inputs.now in
    let r = c.args.rule.now in
    let at = c.args.at.now in
    c.are_cells_wired.ensures
    ∙ (ap (λ k. list_all (is_cell_wired n k w at.position) c.reads-reads.result.now) c.symbols.ensures.value
    ∙ tested_reads r c.reads-reads.ensures.kept at c.requires.node c.requires.near (λ d. are_signals n r.symbols (signals_of w (shifted at.position d))) c.reads-reads.result.now c.reads-reads.ensures.value)

pub returns-clause-few : goal.returns-clause-few
returns-clause-few c =
    let r = c.args.rule.now in
    let small = c.reads-reads.ensures.kept.small c.args.at.now.node c.requires.node in
    let few = few_gates (expansion_at r c.args.at.now.node) in
    omega (arith, small, few)
