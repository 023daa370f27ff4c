-- First the circuit grows by the gates that a maker makes, and then the clauses of these gates are added.
use Rattle.std.proofs.Common.{◌≡◌, ℕ, ◌+◌, List, [], ◌∷◌, ◌++◌, length, drop, refl, ap, ◌∙◌, arith}
use Rattle.std.proofs.lemmas.Result.{IfOk-at_ok}
use Rattle.std.specs.Prelude.{Result, Ok, Err, IfOk}
use Rattle.dd_clause.specs.Clauses.{ClauseList}
use Rattle.dd_circuit.specs.{declared.gates.Gate.Gate, declared.gates.Signal.Signal, Circuits.Network, Circuits.size}
use Rattle.dd_cnf.specs.Encoding.{gates_clauses}
use Rattle.dd_compile.specs.Compiling.{Extends, Maker}
use Rattle.dd_problem.specs.{Encodings.Encoding, Encodings.with_gates, Encodings.with_made, lemmas.Growing.same_encoding}

abbrev pub encoding_of : Network → ClauseList → Encoding
encoding_of circuit cnf = record { circuit = circuit; clauses = cnf.clauses }

drop_front : (gs hs : List Gate) → drop (length gs) (gs ++ hs) ≡ hs
drop_front [] hs = refl
drop_front (g ∷ gs) hs = drop_front gs hs

-- the clauses of the gates that were added
clauses_come : (circuit new : Network) (before : ℕ) (gates : List Gate) → before ≡ length circuit.gates → new.inputs ≡ circuit.inputs → new.gates ≡ circuit.gates ++ gates →
    gates_clauses (new.inputs + before) (drop before new.gates) ≡ gates_clauses (size circuit) gates
clauses_come circuit new before gates is inputs added =
    let n : new.inputs + before ≡ size circuit = omega (arith, is, inputs) in
    ap (λ k. gates_clauses k (drop before new.gates)) n
    ∙ ap (gates_clauses (size circuit)) (ap (λ k. drop k new.gates) is ∙ (ap (drop (length circuit.gates)) added ∙ drop_front circuit.gates gates))

encoded : (circuit new : Network) (cnf last : ClauseList) (before : ℕ) (gates : List Gate) → before ≡ length circuit.gates → new.inputs ≡ circuit.inputs → new.gates ≡ circuit.gates ++ gates →
    last.clauses ≡ cnf.clauses ++ gates_clauses (new.inputs + before) (drop before new.gates) → encoding_of new last ≡ with_gates (encoding_of circuit cnf) gates
encoded circuit new cnf last before gates is inputs added clauses =
    same_encoding (encoding_of new last) (with_gates (encoding_of circuit cnf) gates) inputs added
    (clauses ∙ ap (λ cs. cnf.clauses ++ cs) (clauses_come circuit new before gates is inputs added))

pub made_ok : {E : Type 0} (old : Encoding) (circuit new : Network) (cnf last : ClauseList) (before : ℕ) (maker : Maker) (r made : Result Signal E) → encoding_of circuit cnf ≡ old →
    before ≡ length circuit.gates → Extends circuit new → IfOk r (λ s. made ≡ Ok s) → IfOk made (λ _. new.gates ≡ circuit.gates ++ (maker (size circuit)).gates) →
    IfOk r (λ _. last.clauses ≡ cnf.clauses ++ gates_clauses (new.inputs + before) (drop before new.gates)) → IfOk r (λ _. encoding_of new last ≡ with_made old maker)
made_ok old circuit new cnf last before maker (Ok s) made view is more same added clauses =
    let gates : new.gates ≡ circuit.gates ++ (maker (size circuit)).gates = IfOk-at_ok (λ _. new.gates ≡ circuit.gates ++ (maker (size circuit)).gates) same added in
    encoded circuit new cnf last before (maker (size circuit)).gates is more.inputs gates clauses ∙ ap (λ e. with_made e maker) view
made_ok old circuit new cnf last before maker (Err e) made view is more same added clauses = tt
