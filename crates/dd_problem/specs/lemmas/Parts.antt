-- The clauses and the gates of parts, one after the other.
use Rattle.std.proofs.Common.{◌≡◌, ℕ, ◌+◌, ◌≤◌, Bool, true, false, List, [], ◌∷◌, ◌++◌, map, length, refl, sym, ◌∙◌, arith}
use Rattle.std.proofs.lemmas.{Bool.and_parts, List.Folds.list_all-append}
use Rattle.std.specs.{Prelude.◌&&◌, List.list_all}
use Rattle.dd_clause.specs.Clauses.{is_clause_true}
use Rattle.dd_circuit.specs.{Circuits.agrees, Circuits.AreGates, lemmas.ValueLaws.agrees-append, lemmas.GateLists.AreGates-append}
use Rattle.dd_cnf.specs.{Encoding.gates_clauses, Models.is_satisfied, lemmas.GateLaws.gates_law}
use Rattle.dd_problem.specs.Clauses.{Part, made_by, part_gates, part_clauses}

-- the clauses over the signals of each part are satisfied
abbrev pub tests : (ℕ → Bool) → ℕ → List Part → Bool
tests set n [] = true
tests set n (p ∷ ps) = is_satisfied set (p.tail (made_by p n).signals) && tests set (n + length (made_by p n).gates) ps

four : (a t b u : Bool) → (a && (t && (b && u))) ≡ ((a && b) && (t && u))
four true true b u = refl
four true false true u = refl
four true false false u = refl
four false t b u = refl

pub parts_law : (set : ℕ → Bool) (n : ℕ) (ps : List Part) → is_satisfied set (part_clauses n ps) ≡ (agrees set n (part_gates n ps) && tests set n ps)
parts_law set n [] = refl
parts_law set n (p ∷ ps) =
    let gs = (made_by p n).gates in
    let ts = p.tail (made_by p n).signals in
    let m = n + length gs in
    list_all-append (is_clause_true set) (gates_clauses n gs) (ts ++ part_clauses m ps)
    ∙ (rw (gates_law set n gs, list_all-append (is_clause_true set) ts (part_clauses m ps), parts_law set m ps, agrees-append set n gs (part_gates m ps))
    (four (agrees set n gs) (is_satisfied set ts) (agrees set m (part_gates m ps)) (tests set m ps)))

-- If the part's gates, made after m or more variables, agree with the assignment `set` (it gives each gate's variable the
-- gate's value), the part's clauses over its signals have the truth value b.
abbrev pub PartSays : (ℕ → Bool) → ℕ → Part → Bool → Type 0
PartSays set m p b = (n : ℕ) → m ≤ n → agrees set n (made_by p n).gates ≡ true → is_satisfied set (p.tail (made_by p n).signals) ≡ b

pub tests_law : {D : Type 0} (set : ℕ → Bool) (m : ℕ) (part : D → Part) (q b : D → Bool) → ((d : D) → q d ≡ true → PartSays set m (part d) (b d)) →
    (ds : List D) (n : ℕ) → m ≤ n → list_all q ds ≡ true → agrees set n (part_gates n (map part ds)) ≡ true → tests set n (map part ds) ≡ list_all b ds
tests_law set m part q b say [] n le h ok = refl
tests_law set m part q b say (d ∷ ds) n le h ok =
    let gs = (made_by (part d) n).gates in
    let qs = and_parts (q d) (list_all q ds) h in
    let both = and_parts (agrees set n gs) (agrees set (n + length gs) (part_gates (n + length gs) (map part ds))) (sym (agrees-append set n gs (part_gates (n + length gs) (map part ds))) ∙ ok) in
    rw (say d qs.0 n le both.0, tests_law set m part q b say ds (n + length gs) (omega arith) qs.1 both.1) refl

-- the part's gates, made after m or more variables, are over the inputs and earlier gates
abbrev pub PartFits : ℕ → Part → Type 0
PartFits m p = (n : ℕ) → m ≤ n → AreGates n (made_by p n).gates

pub parts_fit : {D : Type 0} (m : ℕ) (part : D → Part) (q : D → Bool) → ((d : D) → q d ≡ true → PartFits m (part d)) →
    (ds : List D) (n : ℕ) → m ≤ n → list_all q ds ≡ true → AreGates n (part_gates n (map part ds))
parts_fit m part q fit [] n le h = tt
parts_fit m part q fit (d ∷ ds) n le h =
    let qs = and_parts (q d) (list_all q ds) h in
    let gs = (made_by (part d) n).gates in
    AreGates-append n gs (part_gates (n + length gs) (map part ds)) (fit d qs.0 n le) (parts_fit m part q fit ds (n + length gs) (omega arith) qs.1)
