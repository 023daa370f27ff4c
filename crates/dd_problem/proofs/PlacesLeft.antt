-- The loop that makes the premise's gates and clauses, cell by cell.
use Rattle.std.proofs.Common.{◌≡◌, ℕ, ◌+◌, ◌<◌, ◌≤◌, Bool, true, false, List, [], ◌∷◌, ◌++◌, map, length, drop, get_or, refl, ap, sym, ◌∙◌, arith, append_assoc, drop-cons, add-one, Some, None}
use Rattle.std.proofs.lemmas.{Bool.and_from, Bool.le-leb, List.append-nil, List.drop_all}
use Rattle.std.specs.{Prelude.cond, Prelude.Option, List.filter}
use Rattle.dd_lattice.specs.{declared.position.Cell.Cell, Place.moved, Place.is_in_range, Cells.shifted}
use Rattle.dd_expansion.specs.Leaves.{leaves_pass}
use Rattle.dd_clause.specs.declared.clause.Literal.{Literal}
use Rattle.dd_circuit.specs.{declared.gates.Signal.Signal, Circuits.IsSignal, Circuits.size}
use Rattle.dd_cnf.specs.Encoding.{literal_of, gates_clauses}
use Rattle.dd_compile.specs.Wiring.{Wiring, wire_of}
use Rattle.dd_compile.specs.Compiling.{wires_near, is_wire, certain, compiled, gate_count}
use Rattle.dd_compile.specs.lemmas.MadeCount.{made_count}
use Rattle.dd_formula.specs.LocalRule.{LocalRule, expansion_at}
use Rattle.dd_problem.specs.Clauses.{Part, part_gates, part_clauses}
use Rattle.dd_problem.specs.Encodings.{Encoding, with_clause, with_gates, with_made, with_parts}
use Rattle.dd_problem.specs.pushing.Pushed.{AreInputs, is_wired_at, wired_part, wired_parts}
use Rattle.dd_problem.specs.lemmas.Growing.{same_encoding, extended_size, extended_by_none, with_parts-append}

-- if the wire, where there is one, has one of the first n variables, `is_wire` says the same for n and for each m that is not smaller
wire_same : (n m : ℕ) (o : Option Signal) → ((s : Signal) → o ≡ Some s → IsSignal n s) → n ≤ m → is_wire m o ≡ is_wire n o
wire_same n m None within more = refl
wire_same n m (Some s) within more =
    let ok = within s refl in
    and_from _ _ (le-leb _ _ ok.0) (le-leb _ _ (omega (arith, ok.1))) ∙ sym (and_from _ _ (le-leb _ _ ok.0) (le-leb _ _ ok.1))

pub wired_same : (n m : ℕ) (w : Wiring) (x : LocalRule) (d : Cell) → AreInputs n w → n ≤ m → is_wired_at w m x d ≡ is_wired_at w n x d
wired_same n m w x d ok more =
    let same : (c : Cell) (s : ℕ) → is_wire m (wires_near w d.position c s) ≡ is_wire n (wires_near w d.position c s) =
    λ c s. near_same (is_in_range (moved c.position d.position)) (wire_of w (shifted d.position c) s) (ok (shifted d.position c) s) in
    ap (λ (test : Cell → ℕ → Bool). leaves_pass test (expansion_at x d.node)) (λ i c s. same c s i)
  where
    near_same : (b : Bool) (o : Option Signal) → ((s : Signal) → o ≡ Some s → IsSignal n s) → is_wire m (cond b o None) ≡ is_wire n (cond b o None)
    near_same true o within = wire_same n m o within more
    near_same false o within = refl

-- a cell gives its part if the premise is wired there, and otherwise gives no part
pub taken : (w : Wiring) (n : ℕ) (x : LocalRule) (d : Cell) → is_wired_at w n x d ≡ true → wired_parts w n x (d ∷ []) ≡ wired_part w x d ∷ []
taken w n x d h = ap (λ b. map (wired_part w x) (cond b (d ∷ []) [])) h

pub skipped : (w : Wiring) (n : ℕ) (x : LocalRule) (d : Cell) → is_wired_at w n x d ≡ false → wired_parts w n x (d ∷ []) ≡ []
skipped w n x d h = ap (λ b. map (wired_part w x) (cond b (d ∷ []) [])) h

pub place_count : (w : Wiring) (n m : ℕ) (x : LocalRule) (d : Cell) → is_wired_at w n x d ≡ true → length (part_gates m (wired_parts w n x (d ∷ []))) ≡ gate_count (expansion_at x d.node)
place_count w n m x d h =
    let gs = (compiled w d.position (expansion_at x d.node) m).gates in
    ap (λ ps. length (part_gates m ps)) (taken w n x d h)
    ∙ (ap length (append-nil (gs ++ []) ∙ append-nil gs) ∙ made_count (expansion_at x d.node) (certain (wires_near w d.position)) m)

-- the parts of the first cell, and then those of the others
pub parts_split : (w : Wiring) (n : ℕ) (x : LocalRule) (d : Cell) (ds : List Cell) → wired_parts w n x (d ∷ ds) ≡ wired_parts w n x (d ∷ []) ++ wired_parts w n x ds
parts_split w n x d ds = split (is_wired_at w n x d) where
  split : (b : Bool) → map (wired_part w x) (cond b (d ∷ filter (is_wired_at w n x) ds) (filter (is_wired_at w n x) ds)) ≡
      map (wired_part w x) (cond b (d ∷ []) []) ++ map (wired_part w x) (filter (is_wired_at w n x) ds)
  split true = refl
  split false = refl

next_cell : (cells : List Cell) (i : ℕ) (d : Cell) → i < length cells → d ≡ get_or cells i d → drop i cells ≡ d ∷ drop (i + 1) cells
next_cell cells i d h here = drop-cons cells i d h ∙ rw (add-one i, ← here) refl

abbrev parts_from : Wiring → ℕ → LocalRule → List Cell → ℕ → List Part
parts_from w n x cells i = wired_parts w n x (drop i cells)

pub next_parts : (w : Wiring) (n : ℕ) (x : LocalRule) (cells : List Cell) (i : ℕ) (d : Cell) → i < length cells → d ≡ get_or cells i d →
    parts_from w n x cells i ≡ wired_parts w n x (d ∷ []) ++ parts_from w n x cells (i + 1)
next_parts w n x cells i d h here = ap (wired_parts w n x) (next_cell cells i d h here) ∙ parts_split w n x d (drop (i + 1) cells)

-- The loop over cells: `start` with the parts of all cells is `now` with the parts of the cells that are left.
pub record PlacesLeft (w : Wiring) (x : LocalRule) (cells : List Cell) (i : ℕ) (start now : Encoding) : Type 0 where
  pub inputs : now.circuit.inputs ≡ start.circuit.inputs
  pub left : with_parts start (wired_parts w start.circuit.inputs x cells) ≡ with_parts now (parts_from w start.circuit.inputs x cells i)

pub places_step : (w : Wiring) (x : LocalRule) (cells : List Cell) (i : ℕ) (start now new : Encoding) (d : Cell) → PlacesLeft w x cells i start now → i < length cells → d ≡ get_or cells i d →
    new ≡ with_parts now (wired_parts w now.circuit.inputs x (d ∷ [])) → PlacesLeft w x cells (i + 1) start new
places_step w x cells i start now new d p h here added =
    let n = start.circuit.inputs in
    let one = wired_parts w n x (d ∷ []) in
    let rest = parts_from w n x cells (i + 1) in
    let with_one : new ≡ with_parts now one = added ∙ ap (λ k. with_parts now (wired_parts w k x (d ∷ []))) p.inputs in
    record {
      inputs = ap (λ (e : Encoding). e.circuit.inputs) added ∙ p.inputs;
      left = p.left ∙ (ap (with_parts now) (next_parts w n x cells i d h here) ∙ (with_parts-append now one rest ∙ ap (λ e. with_parts e rest) (sym with_one)));
    }

-- there is room for the next cell
pub places_few : (w : Wiring) (x : LocalRule) (cells : List Cell) (i most : ℕ) (start now : Encoding) (d : Cell) → PlacesLeft w x cells i start now → i < length cells → d ≡ get_or cells i d →
    size (with_parts start (wired_parts w start.circuit.inputs x cells)).circuit ≤ most → size (with_parts now (wired_parts w now.circuit.inputs x (d ∷ []))).circuit ≤ most
places_few w x cells i most start now d p h here few =
    let n = start.circuit.inputs in
    let one = wired_parts w n x (d ∷ []) in
    let rest = parts_from w n x cells (i + 1) in
    let then = with_parts now one in
    let all = ap (λ (e : Encoding). size e.circuit) (p.left ∙ (ap (with_parts now) (next_parts w n x cells i d h here) ∙ with_parts-append now one rest)) in
    let more = extended_size then (part_gates (size then.circuit) rest) (part_clauses (size then.circuit) rest) in
    let same = ap (λ k. size (with_parts now (wired_parts w k x (d ∷ []))).circuit) p.inputs in
    omega (arith, all, more, same, few)

pub places_done : (w : Wiring) (x : LocalRule) (cells : List Cell) (i : ℕ) (start now : Encoding) → PlacesLeft w x cells i start now → length cells ≤ i →
    now ≡ with_parts start (wired_parts w start.circuit.inputs x cells)
places_done w x cells i start now p h =
    sym (p.left ∙ (ap (λ cs. with_parts now (wired_parts w start.circuit.inputs x cs)) (drop_all i cells h) ∙ extended_by_none now))

-- a place where the premise is not wired adds nothing
pub nothing_added : (w : Wiring) (x : LocalRule) (now : Encoding) (d : Cell) → is_wired_at w now.circuit.inputs x d ≡ false → now ≡ with_parts now (wired_parts w now.circuit.inputs x (d ∷ []))
nothing_added w x now d none = sym (ap (with_parts now) (skipped w now.circuit.inputs x d none) ∙ extended_by_none now)

-- the part of a place: its gates with their clauses, and then the clause that says that its signal is true
pub place_done : (w : Wiring) (x : LocalRule) (d : Cell) (start now last : Encoding) (s : Signal) (l : Literal) → now ≡ with_made start (compiled w d.position (expansion_at x d.node)) →
    s ≡ (compiled w d.position (expansion_at x d.node) (size start.circuit)).signal → l ≡ literal_of s → last ≡ with_clause now (l ∷ []) → last ≡ with_parts start (wired_part w x d ∷ [])
place_done w x d start now last s l made signal literal pushed =
    let n = size start.circuit in
    let m = compiled w d.position (expansion_at x d.node) n in
    let clause = literal_of m.signal ∷ [] in
    pushed
    ∙ (ap (λ e. with_clause e (l ∷ [])) made
    ∙ (ap (λ k. with_clause (with_gates start m.gates) (k ∷ [])) (literal ∙ ap literal_of signal)
    ∙ same_encoding (with_clause (with_gates start m.gates) clause) (with_parts start (wired_part w x d ∷ [])) refl
    (ap (λ gs. start.circuit.gates ++ gs) (sym (append-nil (m.gates ++ []) ∙ append-nil m.gates)))
    (append_assoc start.clauses (gates_clauses n m.gates) (clause ∷ []) ∙ ap (λ gs. start.clauses ++ (gates_clauses n gs ++ clause ∷ [])) (sym (append-nil m.gates)))))
