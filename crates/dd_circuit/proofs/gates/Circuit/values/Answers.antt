use Rattle.std.proofs.{Common.◌∙◌, Common.arith, lemmas.Grind.common_steps}
use Rattle.dd_circuit.specs.lemmas.ValueLaws.{gate_here, values_step, values_done, values_only}
use Rattle.dd_circuit.proofs.gates.Circuit.values.Goals as goal

pub gate_value-value-requires : goal.gate_value-value-requires
gate_value-value-requires c =
    gate_here c.args.self.now.inputs c.args.inputs.now c.deref.result.now c.gates-gate-items.result.now c.loop-gate.gate-index c.gate-item.result
    c.requires c.gates-gate-items.ensures.in_range (omega arith) (c.deref.ensures.value ∙ c.loop-gate.invariant) c.gate-item.is

pub loop-gate-preserved : goal.loop-gate-preserved
loop-gate-preserved c =
    values_step c.args.inputs.now c.loop-gate.values.items c.deref.result.now c.push.new.self.items c.gate_value-value.result c.gates-gate-items.result.now c.loop-gate.gate-index
    c.gate-item.result (omega arith) c.gate-item.is c.loop-gate.invariant c.deref.ensures.value c.gate_value-value.ensures c.in_ok-push.ensures.items

pub returns-clause-are_values : goal.returns-clause-are_values
returns-clause-are_values c =
    values_done c.args.self.now c.args.inputs.now c.loop-gate.values.items c.gates-gate-items.result.now c.loop-gate.gate-index
    c.requires c.gates-gate-items.ensures.in_range c.gates-gate-items.ensures.value (omega arith) c.loop-gate.invariant

pub returns-clause-only : goal.returns-clause-only
returns-clause-only c =
    values_only c.args.self.now c.args.inputs.now c.loop-gate.values.items c.gates-gate-items.result.now c.loop-gate.gate-index
    c.gates-gate-items.ensures.in_range c.gates-gate-items.ensures.value (omega arith) c.loop-gate.invariant

pub returns-clause-exact : goal.returns-clause-exact
returns-clause-exact c = grind (arith, common_steps)
