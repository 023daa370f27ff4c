-- A circuit and clauses over its signals, as the code builds them side by side.
use Rattle.std.specs.Prelude.{List, [], ◌∷◌, ◌++◌}
use Rattle.dd_clause.specs.{declared.clause.Literal.Literal, Clauses.ClauseList}
use Rattle.dd_circuit.specs.{declared.gates.Gate.Gate, Circuits.Network, Circuits.size}
use Rattle.dd_cnf.specs.Encoding.{gates_clauses}
use Rattle.dd_compile.specs.Compiling.{Maker}
use Rattle.dd_problem.specs.Clauses.{Part, part_gates, part_clauses}

-- a circuit, and clauses over its variables
pub record Encoding : Type 0 where
  pub circuit : Network
  pub clauses : List (List Literal)

-- these clauses, whose variables are all inputs, and no gates
abbrev pub over_inputs : ClauseList → Encoding
over_inputs cnf = record { circuit = record { inputs = cnf.variables; gates = [] }; clauses = cnf.clauses }

-- the clauses, with a variable for each input and each gate
abbrev pub clause_list : Encoding → ClauseList
clause_list e = record { variables = size e.circuit; clauses = e.clauses }

-- more gates and more clauses
abbrev pub extended : Encoding → List Gate → List (List Literal) → Encoding
extended e gates clauses = record {
  circuit = record { inputs = e.circuit.inputs; gates = e.circuit.gates ++ gates };
  clauses = e.clauses ++ clauses;
}

-- one more clause
abbrev pub with_clause : Encoding → List Literal → Encoding
with_clause e clause = record { circuit = e.circuit; clauses = e.clauses ++ clause ∷ [] }

-- more gates, with their clauses
abbrev pub with_gates : Encoding → List Gate → Encoding
with_gates e gates = extended e gates (gates_clauses (size e.circuit) gates)

-- the gates that a maker makes next, with their clauses
abbrev pub with_made : Encoding → Maker → Encoding
with_made e maker = with_gates e (maker (size e.circuit)).gates

-- parts, one after the other
abbrev pub with_parts : Encoding → List Part → Encoding
with_parts e parts = extended e (part_gates (size e.circuit) parts) (part_clauses (size e.circuit) parts)
