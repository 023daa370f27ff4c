use Rattle.std.proofs.Common.{◌∙◌, arith}
use Rattle.dd_circuit.specs.Circuits.{size}
use Rattle.dd_compile.proofs.PlacingLaws.{template_here, reads_here, reads_there, gate_asks, signal_small, placing_start, placing_step, placing_done}
use Rattle.dd_compile.proofs.templates.place_template.Goals as goal

pub signals_there-requires : goal.signals_there-requires
signals_there-requires c =
    let t = c.args.template.now in
    let at = c.args.at.now in
    let i = c.template.inside in
    let own = template_here t i.rule.now i.node c.template.view_is at.node c.requires.node i.circuit i.signal c.template.invariant in
    reads_there t.rule own.kept (size c.args.circuit.now) c.args.inputs.now at own.exists c.requires.near c.requires.wired c.reads-reads.result.now
    (reads_here t i.rule.now i.node c.template.view_is at.node c.requires.node c.reads-reads.result.now c.reads-reads.ensures.value)

pub loop-gate-init : goal.loop-gate-init
loop-gate-init c = placing_start c.as_slice-there.result.now c.variables-before.result c.gates-gates.result.now c.args.circuit.now

pub place_gate-requires : goal.place_gate-requires
place_gate-requires c =
    let t = c.args.template.now in
    let at = c.args.at.now in
    let i = c.template.inside in
    let own = template_here t i.rule.now i.node c.template.view_is at.node c.requires.node i.circuit i.signal c.template.invariant in
    let asks =
    gate_asks t.rule at i.circuit i.signal own c.args.circuit.now c.args.inputs.now c.requires.near c.requires.wired c.requires.few
    c.as_slice-there.result.now c.reads-reads.result.now (c.as_slice-there.ensures.value ∙ c.in_ok-signals.ensures)
    (reads_here t i.rule.now i.node c.template.view_is at.node c.requires.node c.reads-reads.result.now c.reads-reads.ensures.value)
    c.variables-before.result c.variables-before.ensures.value c.gates-gates.result.now c.gates-gates.ensures.value
    c.loop-gate.gate-index c.loop-gate.circuit c.gate-item.result c.loop-gate.invariant c.loop-gate-test.true c.gate-item.is in
    record { few = asks.few; before = asks.before; signals = asks.signals; in_range = asks.in_range }

pub loop-gate-preserved : goal.loop-gate-preserved
loop-gate-preserved c =
    let e = c.in_ok-place_gate.ensures in
    placing_step c.as_slice-there.result.now c.variables-before.result c.gates-gates.result.now c.loop-gate.gate-index c.args.circuit.now c.loop-gate.circuit c.place_gate.new.circuit
    c.gate-item.result c.loop-gate.invariant c.loop-gate-test.true c.gate-item.is e.inputs e.gates

pub placed-requires-clause-signal : goal.placed-requires-clause-signal
placed-requires-clause-signal c =
    let t = c.args.template.now in
    let at = c.args.at.now in
    let i = c.template.inside in
    let own = template_here t i.rule.now i.node c.template.view_is at.node c.requires.node i.circuit i.signal c.template.invariant in
    signal_small t.rule at i.circuit i.signal own c.args.circuit.now c.args.inputs.now c.requires.near c.requires.wired c.requires.few
    c.as_slice-there.result.now c.reads-reads.result.now (c.as_slice-there.ensures.value ∙ c.in_ok-signals.ensures)
    (reads_here t i.rule.now i.node c.template.view_is at.node c.requires.node c.reads-reads.result.now c.reads-reads.ensures.value)
    c.variables-before.result c.variables-before.ensures.value c.gates-gates.result.now c.gates-gates.ensures.value

pub returns : goal.returns
returns c =
    let t = c.args.template.now in
    let at = c.args.at.now in
    let i = c.template.inside in
    let own = template_here t i.rule.now i.node c.template.view_is at.node c.requires.node i.circuit i.signal c.template.invariant in
    let done =
    placing_done t.rule at i.circuit i.signal own c.args.circuit.now c.args.inputs.now c.requires.near c.requires.wired c.requires.few
    c.as_slice-there.result.now c.reads-reads.result.now (c.as_slice-there.ensures.value ∙ c.in_ok-signals.ensures)
    (reads_here t i.rule.now i.node c.template.view_is at.node c.requires.node c.reads-reads.result.now c.reads-reads.ensures.value)
    c.variables-before.result c.variables-before.ensures.value c.gates-gates.result.now c.gates-gates.ensures.value
    c.loop-gate.gate-index c.loop-gate.circuit c.placed.result c.loop-gate.invariant (omega arith) c.placed.ensures in
    record { extends = c.loop-gate.invariant.extends; more = done.more; gates = done.gates; signal = done.signal; in_range = done.in_range; says = done.says }
