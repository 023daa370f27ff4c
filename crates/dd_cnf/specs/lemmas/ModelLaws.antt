-- The models of a circuit's clauses are the values of the circuit.
use Rattle.std.proofs.Common.{◌≡◌, ℕ, Bool, true, List, refl, sym, ◌∙◌, ◌+◌, ◌++◌, [], drop, add-zero}
use Rattle.std.proofs.lemmas.List.Sums.{AllPass-from_list_all, list_all-from_AllPass}
use Rattle.dd_clause.specs.{declared.clause.Literal.Literal, Clauses.is_clause_true, Clauses.Satisfies, Clauses.ClauseList}
use Rattle.dd_values.specs.Variables.{true_variables}
use Rattle.dd_circuit.specs.{Circuits.Network, Circuits.AreGates, Circuits.size, Valuations.values_from, lemmas.ValueLaws.are_values}
use Rattle.dd_cnf.specs.{Encoding.gates_clauses, Encoding.encoded, Models.is_satisfied, Models.HasValuesAsModels, lemmas.GateLaws.gates_law}

pub Satisfies-is_satisfied : (set : ℕ → Bool) (clauses : List (List Literal)) → is_satisfied set clauses ≡ true → Satisfies set clauses
Satisfies-is_satisfied set clauses ok = AllPass-from_list_all (is_clause_true set) clauses ok

pub is_satisfied-Satisfies : (set : ℕ → Bool) (clauses : List (List Literal)) → Satisfies set clauses → is_satisfied set clauses ≡ true
is_satisfied-Satisfies set clauses ok = list_all-from_AllPass (is_clause_true set) clauses ok

pub encoded_has_models : (circuit : Network) → AreGates circuit.inputs circuit.gates → HasValuesAsModels circuit (encoded circuit)
encoded_has_models circuit ok = record {
  values_are_models = λ inputs values are. record {
    one_each = are.one_each;
    satisfies = Satisfies-is_satisfied (true_variables values) (gates_clauses circuit.inputs circuit.gates)
        (gates_law (true_variables values) circuit.inputs circuit.gates ∙ are.gates_follow);
  };
  models_are_values = λ values model. record {
    one_each = model.one_each;
    inputs_first = refl;
    gates_follow = sym (gates_law (true_variables values) circuit.inputs circuit.gates)
        ∙ is_satisfied-Satisfies (true_variables values) (gates_clauses circuit.inputs circuit.gates) model.satisfies;
  };
  all_inputs = λ inputs full. (values_from inputs circuit.gates, are_values circuit inputs (values_from inputs circuit.gates) full ok refl);
}

-- clause lists with the same number of variables and the same clauses are equal
pub same_list : (cnf : ClauseList) (variables : ℕ) (clauses : List (List Literal)) → cnf.variables ≡ variables → cnf.clauses ≡ clauses →
    cnf ≡ record { variables = variables; clauses = clauses }
same_list cnf variables clauses wide all = rw (← wide, ← all) refl

-- the clauses that `encode` adds to an empty list have the values of the circuit as their models
pub has_models : (circuit : Network) (before : List (List Literal)) (cnf : ClauseList) → AreGates circuit.inputs circuit.gates → before ≡ [] →
    cnf.variables ≡ size circuit → cnf.clauses ≡ before ++ gates_clauses (circuit.inputs + 0) (drop 0 circuit.gates) → HasValuesAsModels circuit cnf
has_models circuit before cnf ok none wide all =
    let clauses : cnf.clauses ≡ gates_clauses circuit.inputs circuit.gates = all ∙ rw (none, add-zero circuit.inputs) refl in
    rw (same_list cnf (size circuit) (gates_clauses circuit.inputs circuit.gates) wide clauses) (encoded_has_models circuit ok)
