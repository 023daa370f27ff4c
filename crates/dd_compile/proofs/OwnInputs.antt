-- The new variables of a template's cells: the loops that list these variables, and which variables they are.
use Rattle.std.proofs.Common.{◌≡◌, ◌<◌, ◌≤◌, ℕ, zero, suc, ◌+◌, ◌-◌, ◌*◌, true, List, [], ◌∷◌, ◌++◌, Some, length, take, drop, get_or, slice_get, refl, ap, sym, ◌∙◌, arith, length-append, append_assoc, append-nil, drop-cons, add-one, eq-eqb}
use Rattle.std.proofs.lemmas.{Bool.and_from, Bool.le-leb, List.take_more, List.take_all, List.drop_all}
use Rattle.std.specs.{Prelude.◌==◌, Prelude.nat_le, List.list_all, List.flat_map}
use Rattle.dd_lattice.specs.declared.position.Cell.{Cell}
use Rattle.dd_circuit.specs.{declared.gates.Signal.Signal, Circuits.signal_of}
use Rattle.dd_compile.specs.{Wiring.Wiring, Wiring.signal_for, Wiring.with_cell, RuleSignals.is_signal, RuleSignals.are_signals}
use Rattle.dd_compile.specs.{ValueGates.fresh, placing.Own.signals_in_turn, placing.Own.own_wiring, lemmas.ChoiceLaws.fresh_length}

pub fresh_step : (n k i v : ℕ) (now new : List Signal) → i < k → fresh n k ≡ now ++ fresh (n + i) (k - i) → v ≡ n + i + 1 → new ≡ now ++ signal_of v ∷ [] →
    fresh n k ≡ new ++ fresh (n + (i + 1)) (k - (i + 1))
fresh_step n k i v now new below so_far is pushed =
    let r = k - (i + 1) in
    let left : k - i ≡ suc r = omega arith in
    let here : suc (n + i) ≡ v = omega (arith, is) in
    let next : v ≡ n + (i + 1) = omega (arith, is) in
    so_far
    ∙ (ap (λ j. now ++ fresh (n + i) j) left
    ∙ (ap (λ j. now ++ (signal_of j ∷ fresh j r)) here
    ∙ (sym (append_assoc now (signal_of v ∷ []) (fresh v r)) ∙ (ap (λ xs. xs ++ fresh v r) (sym pushed) ∙ ap (λ j. new ++ fresh j r) next))))

pub fresh_end : (n k i : ℕ) (now : List Signal) → k ≤ i → fresh n k ≡ now ++ fresh (n + i) (k - i) → now ≡ fresh n k
fresh_end n k i now past so_far =
    let none : k - i ≡ 0 = omega arith in
    sym (so_far ∙ (ap (λ j. now ++ fresh (n + i) j) none ∙ append-nil now))

pub turn_step : (m v u i : ℕ) (cells : List Cell) (d : Cell) (ss : List Signal) (now new : Wiring) → i < length cells → d ≡ get_or cells i d → ss ≡ fresh v m → u ≡ v + m →
    signals_in_turn m 0 cells ≡ now.signals ++ signals_in_turn m v (drop i cells) → new ≡ with_cell now d ss →
    signals_in_turn m 0 cells ≡ new.signals ++ signals_in_turn m u (drop (i + 1) cells)
turn_step m v u i cells d ss now new below here are more so_far added =
    let next : drop i cells ≡ d ∷ drop (i + 1) cells = drop-cons cells i d below ∙ rw (add-one i, ← here) refl in
    let rest = signals_in_turn m (v + m) (drop (i + 1) cells) in
    let signals : new.signals ≡ now.signals ++ ss ∷ [] = ap (λ (w : Wiring). w.signals) added in
    so_far
    ∙ (ap (λ cs. now.signals ++ signals_in_turn m v cs) next
    ∙ (ap (λ x. now.signals ++ (x ∷ rest)) (sym are)
    ∙ (sym (append_assoc now.signals (ss ∷ []) rest) ∙ (ap (λ xs. xs ++ rest) (sym signals) ∙ ap (λ j. new.signals ++ signals_in_turn m j (drop (i + 1) cells)) (sym more)))))

pub turn_cells : (i : ℕ) (cells : List Cell) (d : Cell) (ss : List Signal) (now new : Wiring) → i < length cells → d ≡ get_or cells i d → now.cells ≡ take i cells → new ≡ with_cell now d ss →
    new.cells ≡ take (i + 1) cells
turn_cells i cells d ss now new below here so_far added =
    ap (λ (w : Wiring). w.cells) added ∙ (ap (λ cs. cs ++ d ∷ []) so_far ∙ (ap (λ c. take i cells ++ c ∷ []) here ∙ sym (take_more cells i d below)))

pub turn_end : (m v i : ℕ) (cells : List Cell) (now : Wiring) → length cells ≤ i → now.cells ≡ take i cells →
    signals_in_turn m 0 cells ≡ now.signals ++ signals_in_turn m v (drop i cells) → now ≡ own_wiring m cells
turn_end m v i cells now past cs ss =
    let all : now.cells ≡ cells = cs ∙ take_all i cells past in
    let signals : now.signals ≡ signals_in_turn m 0 cells = sym (ss ∙ (ap (λ ds. now.signals ++ signals_in_turn m v ds) (drop_all i cells past) ∙ append-nil now.signals)) in
    λ j. record { cells = all j; signals = signals j }

pub in_turn_length : (m n : ℕ) (cs : List Cell) → length (signals_in_turn m n cs) ≡ length cs
in_turn_length m n [] = refl
in_turn_length m n (c ∷ cs) = ap suc (in_turn_length m (n + m) cs)

fresh_test : (n k m : ℕ) → n + k ≤ m → list_all (is_signal m) (fresh n k) ≡ true
fresh_test n zero m h = refl
fresh_test n (suc k) m h =
    and_from (is_signal m (signal_of (suc n))) (list_all (is_signal m) (fresh (suc n) k))
    (and_from (nat_le 1 (suc n)) (nat_le (suc n) m) (le-leb 1 (suc n) (omega arith)) (le-leb (suc n) m (omega (arith, h))))
    (fresh_test (suc n) k m (omega (arith, h)))

-- each cell has m signals, whose variables are at most `most`
pub in_turn_full : (m n most : ℕ) (cs : List Cell) → n + length cs * m ≤ most → (i : ℕ) → i < length cs → are_signals most m (slice_get (signals_in_turn m n cs) i) ≡ true
in_turn_full m n most [] h i below = absurd (omega arith)
in_turn_full m n most (c ∷ cs) h zero below =
    and_from (length (fresh n m) == m) (list_all (is_signal most) (fresh n m)) (eq-eqb (length (fresh n m)) m (fresh_length n m)) (fresh_test n m most (omega (arith, h)))
in_turn_full m n most (c ∷ cs) h (suc i) below = in_turn_full m (n + m) most cs (omega (arith, h)) i (omega arith)

fresh_at : (n m s : ℕ) → s < m → slice_get (fresh n m) s ≡ Some (signal_of (suc (n + s)))
fresh_at n zero s h = absurd (omega arith)
fresh_at n (suc m) zero h = let e : suc n ≡ suc (n + 0) = omega arith in ap (λ v. Some (signal_of v)) e
fresh_at n (suc m) (suc s) h = let e : suc (suc n + s) ≡ suc (n + suc s) = omega arith in fresh_at (suc n) m s (omega arith) ∙ ap (λ v. Some (signal_of v)) e

get_right : (xs ys : List Signal) (j : ℕ) → slice_get (xs ++ ys) (length xs + j) ≡ slice_get ys j
get_right [] ys j = let e : 0 + j ≡ j = omega arith in ap (slice_get ys) e
get_right (x ∷ xs) ys j = let e : suc (length xs) + j ≡ suc (length xs + j) = omega arith in ap (slice_get (x ∷ (xs ++ ys))) e ∙ get_right xs ys j

get_left : (xs ys : List Signal) (j : ℕ) → j < length xs → slice_get (xs ++ ys) j ≡ slice_get xs j
get_left [] ys j h = absurd (omega arith)
get_left (x ∷ xs) ys zero h = refl
get_left (x ∷ xs) ys (suc j) h = get_left xs ys j (omega arith)

-- Each cell has a row of m items. The rows of all cells are joined into one list, after n other items. In `signals_in_turn m n cs`, the signal of a
-- cell for the symbol s has some variable k + 1, and the item at index k of the joined list is the item at index s of the cell's row.
pub own_read : (m n : ℕ) (cs : List Cell) (row : Cell → List Signal) (before : List Signal) → length before ≡ n → ((i : ℕ) (d : Cell) → i < length cs → length (row (get_or cs i d)) ≡ m) →
    (i s : ℕ) (d : Cell) → i < length cs → s < m →
    (k : ℕ) × (signal_for (slice_get (signals_in_turn m n cs) i) s ≡ Some (signal_of (suc k))) × (slice_get (before ++ flat_map row cs) k ≡ slice_get (row (get_or cs i d)) s)
own_read m n [] row before long full i s d below h = absurd (omega arith)
own_read m n (c ∷ cs) row before long full zero s d below h =
    let wide : length (row c) ≡ m = full zero d below in (
      n + s,
      fresh_at n m s h,
      ap (λ k. slice_get (before ++ (row c ++ flat_map row cs)) (k + s)) (sym long)
          ∙ (get_right before (row c ++ flat_map row cs) s ∙ get_left (row c) (flat_map row cs) s (omega (arith, wide, h))),
    )
own_read m n (c ∷ cs) row before long full (suc i) s d below h =
    let wide : length (row c) ≡ m = full zero d (omega arith) in
    let l = length-append before (row c) in
    let rest = own_read m (n + m) cs row (before ++ row c) (omega (arith, l, long, wide)) (λ j e inside. full (suc j) e (omega (arith, inside))) i s d (omega arith) h in
    (rest.0, rest.1, ap (λ xs. slice_get xs rest.0) (sym (append_assoc before (row c) (flat_map row cs))) ∙ rest.2)

-- the length of the list into which all rows are joined
pub row_count : (m : ℕ) (cs : List Cell) (row : Cell → List Signal) → ((i : ℕ) (d : Cell) → i < length cs → length (row (get_or cs i d)) ≡ m) → length (flat_map row cs) ≡ length cs * m
row_count m [] row full = omega arith
row_count m (c ∷ cs) row full =
    let l = length-append (row c) (flat_map row cs) in
    let wide : length (row c) ≡ m = full zero c (omega arith) in
    let rest = row_count m cs row (λ j e inside. full (suc j) e (omega (arith, inside))) in
    omega (arith, l, wide, rest)
