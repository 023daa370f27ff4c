use Rattle.std.proofs.Common.{◌≡◌, ◌+◌, ◌++◌, take}
use Rattle.dd_cnf.specs.Encoding.{gates_clauses}
use Rattle.dd_cnf.proofs.encoding.push_gates.Given as goal

abbrev pub invariant-loop-gate : goal.invariant-loop-gate
invariant-loop-gate l = record {
  variable : l.variable ≡ l.circuit.inputs + l.from + l.gate-index;
  variables : l.cnf.variables ≡ l.initial.cnf.variables;
  clauses : l.cnf.clauses ≡ l.initial.cnf.clauses ++ gates_clauses (l.circuit.inputs + l.from) (take l.gate-index l.gate-items);
}
