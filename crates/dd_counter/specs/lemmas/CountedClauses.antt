-- How many clauses the counter and the last clause add to those of the torus: no more than `weight_count` counts for them.
use Rattle.std.proofs.Common.{ℕ, zero, suc, ◌+◌, ◌*◌, ◌≤◌, Bool, true, false, List, [], ◌∷◌, ◌++◌, map, length, ap, arith, Some, None, length-append}
use Rattle.std.proofs.lemmas.List.{length-map}
use Rattle.std.specs.{Prelude.◌-◌, Prelude.nat_lt, Prelude.Option, Prelude.slice_get, Prelude.slice_index, List.range_with_len}
use Rattle.dd_clause.specs.{declared.clause.Literal.Literal, Clauses.ClauseList}
use Rattle.dd_circuit.specs.declared.gates.{Signal.Signal, Gate.Gate, Gate.TheVariants.Or}
use Rattle.dd_cnf.specs.Encoding.{gates_clauses, literal, literal_of, opposing}
use Rattle.dd_cnf.specs.lemmas.GateLaws.{gates_clauses-append}
use Rattle.dd_counter.specs.Counter.{Making, joined, member_by, of_symbol, members, count, row, rows, refusal_of, weighed}

-- if gates follow others, the bounds on the numbers of their clauses add up
after : (n : ℕ) (gs hs : List Gate) (a b : ℕ) → length (gates_clauses n gs) ≤ a → length (gates_clauses (n + length gs) hs) ≤ b → length (gates_clauses n (gs ++ hs)) ≤ a + b
after n gs hs a b first rest =
    let all = ap length (gates_clauses-append n gs hs) in
    let e = length-append (gates_clauses n gs) (gates_clauses (n + length gs) hs) in
    omega (arith, all, e, first, rest)

joined_clauses : (make : ℕ → Making) (m c a n : ℕ) → ((s k : ℕ) → length (gates_clauses k (make s k).gates) ≤ m) → length (gates_clauses n (joined (map make (range_with_len a c)) n).gates) ≤ c * m
joined_clauses make m zero a n each = omega arith
joined_clauses make m (suc c) a n each =
    let first = (make a n).gates in
    let all : length (gates_clauses n (joined (map make (range_with_len a (suc c))) n).gates) ≤ m + c * m =
    after n first (joined (map make (range_with_len (a + 1) c)) (n + length first)).gates m (c * m) (each a n) (joined_clauses make m c (a + 1) (n + length first) each) in
    omega (arith, all)

joined_signals : (make : ℕ → Making) (c a n : ℕ) → ((s k : ℕ) → length (make s k).signals ≤ 1) → length (joined (map make (range_with_len a c)) n).signals ≤ c
joined_signals make zero a n each = omega arith
joined_signals make (suc c) a n each =
    let rest = joined (map make (range_with_len (a + 1) c)) (n + length (make a n).gates) in
    let e = length-append (make a n).signals rest.signals in
    let here = each a n in
    let more = joined_signals make c (a + 1) (n + length (make a n).gates) each in
    omega (arith, e, here, more)

member_clauses : (from : Signal) (alone : Bool) (earlier : Option Signal) (n : ℕ) → length (gates_clauses n (member_by from alone earlier n).gates) ≤ 3
member_clauses from true earlier n = omega arith
member_clauses from false (Some r) n = omega arith
member_clauses from false None n = omega arith

member_signals : (from : Signal) (alone : Bool) (earlier : Option Signal) (n : ℕ) → length (member_by from alone earlier n).signals ≤ 1
member_signals from true earlier n = omega arith
member_signals from false (Some r) n = omega arith
member_signals from false None n = omega arith

or_clauses : (n : ℕ) (signals : List Signal) → length (gates_clauses n (Or signals ∷ [])) ≤ length signals + 1
or_clauses n signals =
    let each : Signal → List Literal = λ l. literal (suc n) true ∷ opposing l ∷ [] in
    let few = length-map signals each in
    let whole = length-append (map each signals) ((literal (suc n) false ∷ map literal_of signals) ∷ []) in
    let none = length-append (map each signals ++ (literal (suc n) false ∷ map literal_of signals) ∷ []) [] in
    omega (arith, few, whole, none)

count_clauses : (ws : List ℕ) (k : ℕ) (before : List Signal) (t n : ℕ) → length (gates_clauses n (count ws k before t n).gates) ≤ suc (4 * length ws)
count_clauses ws k before t n =
    let each = joined (members ws k t before) n in
    let few =
    joined_signals (of_symbol ws k t before) (length ws) 0 n (λ s m. member_signals _ (nat_lt t (slice_index ws s)) (slice_get before (t - slice_index ws s)) m) in
    let first =
    joined_clauses (of_symbol ws k t before) 3 (length ws) 0 n (λ s m. member_clauses _ (nat_lt t (slice_index ws s)) (slice_get before (t - slice_index ws s)) m) in
    let last = or_clauses (n + length each.gates) each.signals in
    let all = after n each.gates (Or each.signals ∷ []) (length ws * 3) (length each.signals + 1) first last in
    omega (arith, all, few)

pub rows_clauses : (ws : List ℕ) (below c k : ℕ) (before : List Signal) (n : ℕ) → length (gates_clauses n (rows ws below c k before n).gates) ≤ c * (below * suc (4 * length ws))
rows_clauses ws below zero k before n = omega arith
rows_clauses ws below (suc c) k before n =
    let first = row ws below k before n in
    let one = joined_clauses (count ws k before) (suc (4 * length ws)) below 0 n (λ t m. count_clauses ws k before t m) in
    let more = rows_clauses ws below c (k + 1) first.signals (n + length first.gates) in
    let all : length (gates_clauses n (rows ws below (suc c) k before n).gates) ≤ below * suc (4 * length ws) + c * (below * suc (4 * length ws)) =
    after n first.gates (rows ws below c (k + 1) first.signals (n + length first.gates)).gates (below * suc (4 * length ws)) (c * (below * suc (4 * length ws))) one more in
    omega (arith, all)

refusal_length : (r : Option Signal) → length (refusal_of r) ≤ 1
refusal_length None = omega arith
refusal_length (Some r) = omega arith

pub weighed_clauses : (base : ClauseList) (ws : List ℕ) (below c : ℕ) → length (weighed base ws below c).clauses ≤ length base.clauses + c * (below * suc (4 * length ws)) + 1
weighed_clauses base ws below c =
    let all = rows ws below c 0 [] base.variables in
    let gates = gates_clauses base.variables all.gates in
    let last = refusal_of (slice_get all.signals (below - 1)) in
    let few = rows_clauses ws below c 0 [] base.variables in
    let one = refusal_length (slice_get all.signals (below - 1)) in
    let e = length-append base.clauses gates in
    let f = length-append (base.clauses ++ gates) last in
    omega (arith, few, one, e, f)
