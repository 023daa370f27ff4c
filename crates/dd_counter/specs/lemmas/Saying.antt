-- What the gates of the counter say if each cell has one symbol.
use Rattle.std.proofs.Common.{◌≡◌, ℕ, zero, suc, ◌+◌, ◌<◌, Bool, true, false, List, [], ◌∷◌, map, length, take, get_or, refl, ap, sym, ◌∙◌, arith, Some, None}
use Rattle.std.proofs.lemmas.{Bool.and_parts, Bool.le-ltb, List.FromFn.get_or-map-range_with_len}
use Rattle.std.proofs.lemmas.{List.Sums.sum_by_more, List.take_all, Option.slice_get-get_or}
use Rattle.std.specs.Prelude.{◌&&◌, ◌||◌, ◌-◌, ◌==◌, nat_lt, Option, slice_get, slice_index}
use Rattle.std.specs.{List.All, List.list_any, List.range_with_len, Bool.beq}
use Rattle.dd_circuit.specs.declared.gates.{Signal.Signal, Gate.TheVariants.And, Gate.TheVariants.Or}
use Rattle.dd_circuit.specs.Circuits.{signal_of, signal_value, gate_value, agrees}
use Rattle.dd_pattern.specs.Weight.{total_weight}
use Rattle.dd_problem.specs.{Clauses.input, Symbols.AreRead}
use Rattle.dd_counter.specs.Counter.{joined, member_by, member, of_symbol, members, count, row, rows}
use Rattle.dd_counter.specs.lemmas.Bools.{one_of_range, lt_sum}
use Rattle.dd_counter.specs.lemmas.Joined.{agrees_parts, any_joined, each_joined}
use Rattle.dd_values.specs.lemmas.Booleans.{and_true, or_false, same_from_beq, and_false}

-- the value of the signal at t; false if there is no signal at t
abbrev pub said : (ℕ → Bool) → List Signal → ℕ → Bool
said set signals t = get_or (map (signal_value set) signals) t false

abbrev pub value_of : (ℕ → Bool) → Option Signal → Bool
value_of set None = false
value_of set (Some r) = signal_value set r

pub said_at : (set : ℕ → Bool) (signals : List Signal) (t : ℕ) → said set signals t ≡ value_of set (slice_get signals t)
said_at set [] t = refl
said_at set (r ∷ rs) zero = refl
said_at set (r ∷ rs) (suc t) = said_at set rs t

member_by_says : (set : ℕ → Bool) (from : Signal) (alone : Bool) (earlier : Option Signal) (n : ℕ) → agrees set n (member_by from alone earlier n).gates ≡ true →
    list_any (signal_value set) (member_by from alone earlier n).signals ≡ (signal_value set from && (alone || value_of set earlier))
member_by_says set from true earlier n h = or_false (signal_value set from) ∙ sym (and_true (signal_value set from))
member_by_says set from false None n h = sym (and_false (signal_value set from))
member_by_says set from false (Some r) n h =
    let both = and_parts (beq (set (suc n)) (gate_value set (And (from ∷ r ∷ [])))) true h in
    or_false (set (suc n)) ∙ (same_from_beq (set (suc n)) (gate_value set (And (from ∷ r ∷ []))) both.0 ∙ ap (λ b. signal_value set from && b) (and_true (signal_value set r)))

member_says : (set : ℕ → Bool) (from : Signal) (w t : ℕ) (before : List Signal) (n : ℕ) → agrees set n (member from w t before n).gates ≡ true →
    list_any (signal_value set) (member from w t before n).signals ≡ (signal_value set from && (nat_lt t w || said set before (t - w)))
member_says set from w t before n h =
    member_by_says set from (nat_lt t w) (slice_get before (t - w)) n h
    ∙ ap (λ b. signal_value set from && (nat_lt t w || b)) (sym (said_at set before (t - w)))

-- for each t less than `below`, the signal at t says whether the weight is more than t
abbrev pub SaysWeight : (ℕ → Bool) → ℕ → List Signal → ℕ → Type 0
SaysWeight set below signals weight = (t : ℕ) → t < below → said set signals t ≡ nat_lt t weight

-- the symbols of the cells are those whose inputs are true, and each has a weight
pub record Weighs (set : ℕ → Bool) (ws ss : List ℕ) : Type 0 where
  pub read : AreRead set (length ws) ss
  pub known : All (λ s. s < length ws) ss

-- the weight of the first k cells
abbrev pub weight_to : List ℕ → List ℕ → ℕ → ℕ
weight_to ws ss k = total_weight ws (take k ss)

-- whether the cells up to and including this one weigh more than t if this cell has the symbol s; `before` is the row of the cell before
abbrev passes : (ℕ → Bool) → List ℕ → List Signal → ℕ → ℕ → Bool
passes set ws before t s = nat_lt t (slice_index ws s) || said set before (t - slice_index ws s)

-- the input of the cell k and the symbol s is true exactly when s is the cell's symbol, so a comparison with this symbol can replace the input
read_any : (set : ℕ → Bool) (ws ss : List ℕ) (k : ℕ) (f : ℕ → Bool) → Weighs set ws ss → k < length ss →
    (c a : ℕ) → a + c ≡ length ws →
    list_any (λ s. set (input (length ws) k s) && f s) (range_with_len a c) ≡ list_any (λ s. (get_or ss k 0 == s) && f s) (range_with_len a c)
read_any set ws ss k f ok within zero a end = refl
read_any set ws ss k f ok within (suc c) a end =
    rw (ok.read k a within (omega arith), slice_get-get_or ss k 0 within, read_any set ws ss k f ok within c (a + 1) (omega arith)) refl

count_says : (set : ℕ → Bool) (ws ss : List ℕ) (below k : ℕ) (before : List Signal) (t n : ℕ) → Weighs set ws ss → k < length ss → SaysWeight set below before (weight_to ws ss k) →
    t < below → agrees set n (count ws k before t n).gates ≡ true → map (signal_value set) (count ws k before t n).signals ≡ nat_lt t (weight_to ws ss (k + 1)) ∷ []
count_says set ws ss below k before t n ok within says small h =
    let each = joined (members ws k t before) n in
    let both = agrees_parts set n each.gates (Or each.signals ∷ []) h in
    let last = and_parts (beq (set (suc (n + length each.gates))) (gate_value set (Or each.signals))) true both.1 in
    let value = same_from_beq (set (suc (n + length each.gates))) (gate_value set (Or each.signals)) last.0 in
    let some =
    any_joined set (of_symbol ws k t before) (λ s. set (input (length ws) k s) && passes set ws before t s)
    (λ s m g. member_says set (signal_of (input (length ws) k s)) (slice_index ws s) t before m g) (length ws) 0 n both.0 in
    let c = get_or ss k 0 in
    let there : c < length ws = ok.known k 0 within in
    let sum = sum_by_more (slice_index ws) ss k 0 within in
    ap (λ b. b ∷ []) (value ∙ (some
    ∙ (read_any set ws ss k (passes set ws before t) ok within (length ws) 0 (omega arith)
    ∙ (one_of_range (passes set ws before t) c (length ws) 0 (omega arith) (omega arith)
    ∙ (lt_sum t (slice_index ws c) (weight_to ws ss k) (said set before (t - slice_index ws c)) (λ le. says (t - slice_index ws c) (omega arith))
    ∙ ap (nat_lt t) (sym sum))))))

row_says : (set : ℕ → Bool) (ws ss : List ℕ) (below k : ℕ) (before : List Signal) (n : ℕ) → Weighs set ws ss → k < length ss → SaysWeight set below before (weight_to ws ss k) →
    agrees set n (row ws below k before n).gates ≡ true → SaysWeight set below (row ws below k before n).signals (weight_to ws ss (k + 1))
row_says set ws ss below k before n ok within says h t small =
    ap (λ bs. get_or bs t false) (each_joined set (count ws k before) (λ u. nat_lt u (weight_to ws ss (k + 1))) 0 below
    (λ u m l g. count_says set ws ss below k before u m ok within says (omega arith) g) n h)
    ∙ get_or-map-range_with_len (λ u. nat_lt u (weight_to ws ss (k + 1))) 0 below t t false small (omega arith)

pub rows_say : (set : ℕ → Bool) (ws ss : List ℕ) (below c k : ℕ) (before : List Signal) (n : ℕ) → Weighs set ws ss → k + c ≡ length ss → SaysWeight set below before (weight_to ws ss k) →
    agrees set n (rows ws below c k before n).gates ≡ true → SaysWeight set below (rows ws below c k before n).signals (total_weight ws ss)
rows_say set ws ss below zero k before n ok end says h = λ t small. says t small ∙ ap (λ xs. nat_lt t (total_weight ws xs)) (take_all k ss (omega arith))
rows_say set ws ss below (suc c) k before n ok end says h =
    let first = row ws below k before n in
    let rest = rows ws below c (k + 1) first.signals (n + length first.gates) in
    let both = agrees_parts set n first.gates rest.gates h in
    rows_say set ws ss below c (k + 1) first.signals (n + length first.gates) ok (omega arith) (row_says set ws ss below k before n ok (omega arith) says both.0) both.1

-- the signals of the last row say how much all cells together weigh; the first row is over an empty row
pub all_say : (set : ℕ → Bool) (ws ss : List ℕ) (below n : ℕ) → Weighs set ws ss → agrees set n (rows ws below (length ss) 0 [] n).gates ≡ true →
    SaysWeight set below (rows ws below (length ss) 0 [] n).signals (total_weight ws ss)
all_say set ws ss below n ok h = rows_say set ws ss below (length ss) 0 [] n ok (omega arith) (λ t small. sym (le-ltb t 0 (omega arith))) h
