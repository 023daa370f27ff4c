use Rattle.std.proofs.Common.{◌∙◌, ◌+◌, ◌≤◌, ◌-◌, length, take, drop, arith}
use Rattle.dd_cnf.proofs.GateClauses.{gate_from, clauses_step}
use Rattle.dd_cnf.proofs.encoding.push_gates.Goals as goal

pub push_gate-requires-clause-members : goal.push_gate-requires-clause-members
push_gate-requires-clause-members c =
    let gates = c.gates-gates.result.now in
    let few : c.args.circuit.now.inputs + length gates ≤ c.loop-gate.cnf.variables = rw (c.gates-gates.ensures.value, c.loop-gate.invariant.variables) c.requires.variables in
    let low : c.args.from ≤ length gates = rw c.gates-gates.ensures.value c.requires.from in
    gate_from c.args.circuit.now.inputs c.loop-gate.cnf.variables c.args.from gates c.loop-gate.gate-index c.gate-item.result
    low few c.gates-gates.ensures.in_range c.loop-gate-test.true c.gate-item.is

pub loop-gate-preserved : goal.loop-gate-preserved
loop-gate-preserved c = record {
  variable = omega (arith, c.loop-gate.invariant.variable);
  variables = c.in_ok-push_gate.ensures.variables ∙ c.loop-gate.invariant.variables;
  clauses = clauses_step c.args.cnf.now.clauses c.loop-gate.cnf.clauses c.push_gate.new.cnf.clauses (c.args.circuit.now.inputs + c.args.from) (c.loop-gate.variable + 1)
      (take (length c.gates-gates.result.now - c.args.from) (drop c.args.from c.gates-gates.result.now)) c.loop-gate.gate-index c.gate-item.result
      c.loop-gate-test.true c.gate-item.is (omega (arith, c.loop-gate.invariant.variable)) c.loop-gate.invariant.clauses c.in_ok-push_gate.ensures.ok;
}
