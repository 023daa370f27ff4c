-- A circuit and its clauses, grown step by step. Lists of gates or of parts may be added one after the other, or all at once as one list.
use Rattle.std.proofs.Common.{◌≡◌, ℕ, ◌+◌, List, [], ◌∷◌, ◌++◌, length, refl, ap, sym, ◌∙◌, arith, length-append, append_assoc}
use Rattle.std.proofs.lemmas.List.{append-nil}
use Rattle.dd_clause.specs.declared.clause.Literal.{Literal}
use Rattle.dd_circuit.specs.{declared.gates.Gate.Gate, Circuits.size}
use Rattle.dd_cnf.specs.{Encoding.gates_clauses, lemmas.GateLaws.gates_clauses-append}
use Rattle.dd_problem.specs.Clauses.{Part, made_by, part_gates, part_clauses}
use Rattle.dd_problem.specs.Encodings.{Encoding, extended, with_gates, with_parts}

pub part_gates-append : (n : ℕ) (ps qs : List Part) → part_gates n (ps ++ qs) ≡ part_gates n ps ++ part_gates (n + length (part_gates n ps)) qs
part_gates-append n [] qs = let e : n + 0 ≡ n = omega arith in rw e refl
part_gates-append n (p ∷ ps) qs =
    let gs = (made_by p n).gates in
    let rest = part_gates (n + length gs) ps in
    let e : n + length (gs ++ rest) ≡ n + length gs + length rest = omega (arith, length-append gs rest) in
    rw (e, part_gates-append (n + length gs) ps qs) (sym (append_assoc gs rest (part_gates (n + length gs + length rest) qs)))

pub part_clauses-append : (n : ℕ) (ps qs : List Part) → part_clauses n (ps ++ qs) ≡ part_clauses n ps ++ part_clauses (n + length (part_gates n ps)) qs
part_clauses-append n [] qs = let e : n + 0 ≡ n = omega arith in rw e refl
part_clauses-append n (p ∷ ps) qs =
    let gs = (made_by p n).gates in
    let ts = p.tail (made_by p n).signals in
    let rest = part_gates (n + length gs) ps in
    let cs = part_clauses (n + length gs) ps in
    let ds = part_clauses (n + length gs + length rest) qs in
    let e : n + length (gs ++ rest) ≡ n + length gs + length rest = omega (arith, length-append gs rest) in
    rw (e, part_clauses-append (n + length gs) ps qs) (ap (λ x. gates_clauses n gs ++ x) (sym (append_assoc ts cs ds)) ∙ sym (append_assoc (gates_clauses n gs) (ts ++ cs) ds))

pub same_encoding : (e f : Encoding) → e.circuit.inputs ≡ f.circuit.inputs → e.circuit.gates ≡ f.circuit.gates → e.clauses ≡ f.clauses → e ≡ f
same_encoding e f inputs gates clauses = λ i. record { circuit = record { inputs = inputs i; gates = gates i }; clauses = clauses i }

pub extended_size : (e : Encoding) (gs : List Gate) (cs : List (List Literal)) → size (extended e gs cs).circuit ≡ size e.circuit + length gs
extended_size e gs cs = omega (arith, length-append e.circuit.gates gs)

pub extended_by_none : (e : Encoding) → extended e [] [] ≡ e
extended_by_none e = same_encoding (extended e [] []) e refl (append-nil e.circuit.gates) (append-nil e.clauses)

extended_twice : (e : Encoding) (gs hs : List Gate) (cs ds : List (List Literal)) → extended e (gs ++ hs) (cs ++ ds) ≡ extended (extended e gs cs) hs ds
extended_twice e gs hs cs ds =
    same_encoding (extended e (gs ++ hs) (cs ++ ds)) (extended (extended e gs cs) hs ds) refl (sym (append_assoc e.circuit.gates gs hs)) (sym (append_assoc e.clauses cs ds))

pub with_gates-append : (e : Encoding) (gs hs : List Gate) → with_gates e (gs ++ hs) ≡ with_gates (with_gates e gs) hs
with_gates-append e gs hs =
    let n = size e.circuit in
    ap (extended e (gs ++ hs)) (gates_clauses-append n gs hs)
    ∙ (extended_twice e gs hs (gates_clauses n gs) (gates_clauses (n + length gs) hs)
    ∙ ap (λ k. extended (with_gates e gs) hs (gates_clauses k hs)) (sym (extended_size e gs (gates_clauses n gs))))

pub with_parts-append : (e : Encoding) (ps qs : List Part) → with_parts e (ps ++ qs) ≡ with_parts (with_parts e ps) qs
with_parts-append e ps qs =
    let n = size e.circuit in
    let gs = part_gates n ps in
    ap (λ hs. extended e hs (part_clauses n (ps ++ qs))) (part_gates-append n ps qs)
    ∙ (ap (extended e (gs ++ part_gates (n + length gs) qs)) (part_clauses-append n ps qs)
    ∙ (extended_twice e gs (part_gates (n + length gs) qs) (part_clauses n ps) (part_clauses (n + length gs) qs)
    ∙ ap (λ k. extended (with_parts e ps) (part_gates k qs) (part_clauses k qs)) (sym (extended_size e gs (part_clauses n ps)))))
