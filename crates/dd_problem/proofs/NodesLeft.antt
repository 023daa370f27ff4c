-- The loop that makes the gates at the nodes of a position, and a literal of each signal.
use Rattle.std.proofs.Common.{◌≡◌, ℕ, ◌+◌, ◌<◌, ◌≤◌, List, [], ◌∷◌, ◌++◌, map, length, refl, ap, sym, ◌∙◌, arith, length-append, append_assoc, true}
use Rattle.std.proofs.lemmas.List.{append-nil, Elements.All-push, Elements.All-weaker}
use Rattle.std.specs.List.{range_with_len}
use Rattle.dd_lattice.specs.{Place.Place, Cells.cell}
use Rattle.dd_expansion.specs.declared.expanded.Expanded.{Expanded}
use Rattle.dd_clause.specs.{declared.clause.Literal.Literal, Clauses.IsLiteralInRange, Clauses.IsClauseInRange, Clauses.negation}
use Rattle.dd_circuit.specs.{declared.gates.Signal.Signal, Circuits.IsSignal, Circuits.size}
use Rattle.dd_cnf.specs.Encoding.{literal_of, opposing, gates_clauses}
use Rattle.dd_compile.specs.Wiring.{Wiring}
use Rattle.dd_compile.specs.Compiling.{Made, Maker, AllMade, all_made, wires_near, are_wired, certain, compiled, gate_count}
use Rattle.dd_compile.specs.lemmas.{MadeCount.made_count, Layers.wired_more}
use Rattle.dd_formula.specs.LocalRule.{LocalRule, expansion_at}
use Rattle.dd_problem.specs.Clauses.{Part, part_clauses}
use Rattle.dd_problem.specs.Encodings.{Encoding, with_clause, with_gates, with_parts}
use Rattle.dd_problem.specs.pushing.Pushed.{is_wired_at}
use Rattle.dd_problem.specs.lemmas.RangesLeft.{range_to, range_step, range_ends}
use Rattle.dd_problem.specs.lemmas.Growing.{same_encoding, extended_size, extended_by_none, with_gates-append}

-- the gates of each node, and then one clause of the literals of their signals
abbrev pub turned_part : (ℕ → Maker) → ℕ → (Signal → Literal) → Part
turned_part maker count turn = record { makers = map maker (range_with_len 0 count); tail = λ ss. map turn ss ∷ [] }

-- the gates of a rule at a node of a position
abbrev pub node_maker : Wiring → LocalRule → Place → ℕ → Maker
node_maker w y v a = compiled w v (expansion_at y a)

-- the gates of the nodes from a given one on
abbrev pub nodes_made : (ℕ → Maker) → ℕ → ℕ → ℕ → AllMade
nodes_made maker count node n = all_made (map maker (range_to node count)) n

-- the gates of all nodes
abbrev pub all_nodes : (ℕ → Maker) → ℕ → ℕ → AllMade
all_nodes maker count n = all_made (map maker (range_with_len 0 count)) n

-- The loop over nodes: `start` with the gates of all nodes is `now` with the gates of the nodes that are left. The literals of all nodes are
-- `literals`, followed by those of the nodes that are left.
pub record NodesLeft (maker : ℕ → Maker) (count : ℕ) (turn : Signal → Literal) (node : ℕ) (start now : Encoding) (literals : List Literal) : Type 0 where
  pub inputs : now.circuit.inputs ≡ start.circuit.inputs
  pub more : size start.circuit ≤ size now.circuit
  pub in_range : IsClauseInRange (size now.circuit) literals
  pub literals_left : map turn (all_nodes maker count (size start.circuit)).signals ≡ literals ++ map turn (nodes_made maker count node (size now.circuit)).signals
  pub gates_left : with_gates start (all_nodes maker count (size start.circuit)).gates ≡ with_gates now (nodes_made maker count node (size now.circuit)).gates

-- the next node, and those after it
abbrev pub with_first : Made → AllMade → AllMade
with_first m rest = record { signals = m.signal ∷ rest.signals; gates = m.gates ++ rest.gates }

node_split : (maker : ℕ → Maker) (count : ℕ) (turn : Signal → Literal) (node n : ℕ) → node < count →
    nodes_made maker count node n ≡ with_first (maker node n) (nodes_made maker count (node + 1) (n + length (maker node n).gates))
node_split maker count turn node n h = ap (λ r. all_made (map maker r) n) (range_step node count h)

nodes_end : (maker : ℕ → Maker) (count : ℕ) (turn : Signal → Literal) (node n : ℕ) → count ≤ node → nodes_made maker count node n ≡ record { signals = []; gates = [] }
nodes_end maker count turn node n h = ap (λ r. all_made (map maker r) n) (range_ends node count h)

-- there is room for the gates of the next node
pub node_few : (maker : ℕ → Maker) (count : ℕ) (turn : Signal → Literal) (node most : ℕ) (start now : Encoding) (literals : List Literal) → NodesLeft maker count turn node start now literals →
    node < count → size (with_parts start (turned_part maker count turn ∷ [])).circuit ≤ most → size now.circuit + length (maker node (size now.circuit)).gates ≤ most
node_few maker count turn node most start now literals p h few =
    let n = size now.circuit in
    let all = (all_nodes maker count (size start.circuit)).gates in
    let left = (nodes_made maker count node n).gates in
    let one = (maker node n).gates in
    let later = (nodes_made maker count (node + 1) (n + length one)).gates in
    let whole = extended_size start (all ++ []) (part_clauses (size start.circuit) (turned_part maker count turn ∷ [])) in
    let nothing : length (all ++ []) ≡ length all = ap length (append-nil all) in
    let there = extended_size start all (gates_clauses (size start.circuit) all) in
    let here = extended_size now left (gates_clauses n left) in
    let same = ap (λ (e : Encoding). size e.circuit) p.gates_left in
    let split = ap (λ (m : AllMade). length m.gates) (node_split maker count turn node n h) in
    omega (arith, whole, nothing, there, here, same, split, few, length-append one later)

-- the same for a rule: there is room for the gates of its expansion at the node
pub rule_few : (w : Wiring) (y : LocalRule) (v : Place) (turn : Signal → Literal) (node most : ℕ) (start now : Encoding) (literals : List Literal) (e : Expanded) →
    NodesLeft (node_maker w y v) y.nodes turn node start now literals → node < y.nodes → e ≡ expansion_at y node →
    size (with_parts start (turned_part (node_maker w y v) y.nodes turn ∷ [])).circuit ≤ most → size now.circuit + gate_count e ≤ most
rule_few w y v turn node most start now literals e p h is few =
    let all = node_few (node_maker w y v) y.nodes turn node most start now literals p h few in
    let count : length (node_maker w y v node (size now.circuit)).gates ≡ gate_count e =
    made_count (expansion_at y node) (certain (wires_near w v)) (size now.circuit) ∙ ap gate_count (sym is) in
    omega (arith, all, count)

pub node_wired : (w : Wiring) (y : LocalRule) (v : Place) (turn : Signal → Literal) (node : ℕ) (start now : Encoding) (literals : List Literal) (e : Expanded) →
    NodesLeft (node_maker w y v) y.nodes turn node start now literals → node < y.nodes → e ≡ expansion_at y node →
    ((a : ℕ) → a < y.nodes → is_wired_at w (size start.circuit) y (cell v a) ≡ true) → are_wired (size now.circuit) (wires_near w v) e ≡ true
node_wired w y v turn node start now literals e p h is wired =
    rw is (wired_more (size start.circuit) (size now.circuit) (wires_near w v) (expansion_at y node) p.more (wired node h))

pub node_step : (maker : ℕ → Maker) (count : ℕ) (turn : Signal → Literal) (node : ℕ) (start now new : Encoding) (literals lits : List Literal) (m : Made) (s : Signal) (l : Literal) →
    NodesLeft maker count turn node start now literals → node < count → m ≡ maker node (size now.circuit) → new ≡ with_gates now m.gates →
    s ≡ m.signal → l ≡ turn s → IsLiteralInRange (size new.circuit) l → lits ≡ literals ++ l ∷ [] → NodesLeft maker count turn (node + 1) start new lits
node_step maker count turn node start now new literals lits m s l p h is added signal turned in_range pushed =
    let k = size now.circuit in
    let n : size new.circuit ≡ k + length m.gates = ap (λ (e : Encoding). size e.circuit) added ∙ extended_size now m.gates (gates_clauses k m.gates) in
    let rest = nodes_made maker count (node + 1) (k + length m.gates) in
    let split : nodes_made maker count node k ≡ with_first m rest =
    node_split maker count turn node k h ∙ ap (λ (o : Made). with_first o (nodes_made maker count (node + 1) (k + length o.gates))) (sym is) in
    let lit : l ≡ turn m.signal = turned ∙ ap turn signal in
    record {
      inputs = ap (λ (e : Encoding). e.circuit.inputs) added ∙ p.inputs;
      more = omega (arith, n, p.more);
      in_range =
          rw pushed
          (All-push (IsLiteralInRange (size new.circuit)) literals l
          (All-weaker (IsLiteralInRange k) (IsLiteralInRange (size new.circuit)) (λ o ok. (ok.0, omega (arith, ok.1, n))) literals p.in_range) in_range);
      literals_left =
          p.literals_left
          ∙ (ap (λ (o : AllMade). literals ++ map turn o.signals) split
          ∙ (sym (append_assoc literals (turn m.signal ∷ []) (map turn rest.signals))
          ∙ ap (λ o. o ++ map turn rest.signals) (ap (λ o. literals ++ o ∷ []) (sym lit) ∙ sym pushed)
          ∙ ap (λ o. lits ++ map turn (nodes_made maker count (node + 1) o).signals) (sym n)));
      gates_left =
          p.gates_left
          ∙ (ap (λ (o : AllMade). with_gates now o.gates) split
          ∙ (with_gates-append now m.gates rest.gates
          ∙ (ap (λ e. with_gates e rest.gates) (sym added) ∙ ap (λ o. with_gates new (nodes_made maker count (node + 1) o).gates) (sym n))));
    }

-- the literal of a signal of the circuit is over the circuit's variables, and so is its negation
pub false_in_range : (n : ℕ) (s : Signal) (o l : Literal) → IsSignal n s → o ≡ literal_of s → l ≡ negation o → (l ≡ opposing s) × IsLiteralInRange n l
false_in_range n s o l ok positive negated =
    let var : l.variable ≡ s.variable = ap (λ (k : Literal). k.variable) (negated ∙ ap negation positive) in
    (negated ∙ ap negation positive, rw var ok)

pub true_in_range : (n : ℕ) (s : Signal) (l : Literal) → IsSignal n s → l ≡ literal_of s → IsLiteralInRange n l
true_in_range n s l ok positive = let var : l.variable ≡ s.variable = ap (λ (k : Literal). k.variable) positive in rw var ok

-- after all nodes, only the clause of their literals is left to be added
pub nodes_done : (maker : ℕ → Maker) (count : ℕ) (turn : Signal → Literal) (node : ℕ) (start now last : Encoding) (literals seen : List Literal) →
    NodesLeft maker count turn node start now literals → count ≤ node → seen ≡ literals → last ≡ with_clause now seen →
    last ≡ with_parts start (turned_part maker count turn ∷ [])
nodes_done maker count turn node start now last literals seen p h same pushed =
    let n = size start.circuit in
    let all = all_nodes maker count n in
    let none = nodes_end maker count turn node (size now.circuit) h in
    let lits : map turn all.signals ≡ literals = p.literals_left ∙ (ap (λ (k : AllMade). literals ++ map turn k.signals) none ∙ append-nil literals) in
    let there : with_gates start all.gates ≡ now = p.gates_left ∙ (ap (λ (k : AllMade). with_gates now k.gates) none ∙ extended_by_none now) in
    pushed
    ∙ (ap (λ e. with_clause e seen) (sym there)
    ∙ (ap (with_clause (with_gates start all.gates)) (same ∙ sym lits)
    ∙ same_encoding (with_clause (with_gates start all.gates) (map turn all.signals)) (with_parts start (turned_part maker count turn ∷ [])) refl
    (ap (λ gs. start.circuit.gates ++ gs) (sym (append-nil all.gates)))
    (append_assoc start.clauses (gates_clauses n all.gates) (map turn all.signals ∷ []))))
