-- The wires of cells that have numbers.
use Rattle.std.proofs.Common.{◌≡◌, ℕ, ◌*◌, ◌<◌, List, length, get_or, refl, ap, sym, ◌∙◌, arith, Some, None, option_map}
use Rattle.std.proofs.lemmas.List.{length-map, FromFn.length-map-range_with_len}
use Rattle.std.proofs.lemmas.Option.{slice_get-map, slice_get_within, get_or_from_slice_get}
use Rattle.std.specs.{Prelude.Option, Prelude.slice_get, List.All, List.Contains, List.range_with_len, List.position_or_len}
use Rattle.std.specs.{List.Sorted.IsStrictlySortedBy, Ordering.is_eq}
use Rattle.dd_lattice.specs.{Order.cell_cmp, declared.position.Cell.Cell}
use Rattle.dd_circuit.specs.{declared.gates.Signal.Signal, Circuits.IsSignal, Circuits.signal_of}
use Rattle.dd_compile.specs.Wiring.{IsWiring, signal_for, signals_of, wire_of}
use Rattle.dd_compile.specs.lemmas.WiringLaws.{read_by_place, signals_at_place}
use Rattle.dd_problem.specs.{Clauses.input, pushing.Pushed.AreInputs, pushing.Numbered.symbol_signals, pushing.Numbered.numbered_wiring}
use Rattle.dd_problem.specs.lemmas.{RangesLeft.row_within, Filtered.some_same, Filtered.slice_of_range}
use Rattle.dd_problem.specs.lemmas.CellOrder.{All-range}

pub turns_below : (n : ℕ) → All (λ k. k < n) (range_with_len 0 n)
turns_below n = All-range (λ k. k < n) n 0 (λ k low high. omega arith)

inputs_fit : (m n k s : ℕ) → k < n → s < m → IsSignal (n * m) (signal_of (input m k s))
inputs_fit m n k s h below = let row = row_within m k n h in (omega arith, omega (arith, row))

module _ (m : ℕ) (cells : List Cell) (numbers : List ℕ) (up : IsStrictlySortedBy cell_cmp cells) (full : length numbers ≡ length cells) where
  wiring : IsWiring (numbered_wiring m cells numbers)
  wiring = record { ascending = up; as_many = length-map numbers (symbol_signals m) ∙ full }

  pub wire_there : (c : Cell) (i k s : ℕ) → slice_get cells i ≡ Some c → slice_get numbers i ≡ Some k → s < m → wire_of (numbered_wiring m cells numbers) c s ≡ Some (signal_of (input m k s))
  wire_there c i k s is number below =
      let here : get_or cells i c ≡ c = get_or_from_slice_get cells i c c is in
      ap (λ d. wire_of (numbered_wiring m cells numbers) d s) (sym here)
      ∙ ((read_by_place (numbered_wiring m cells numbers) wiring).at i c s (slice_get_within cells i c is)
      ∙ (ap (λ o. signal_for o s) (slice_get-map (symbol_signals m) numbers i ∙ ap (option_map (symbol_signals m)) number)
      ∙ slice_of_range (λ t. signal_of (input m k t)) m s below))

  pub signals_there : (c : Cell) (i k : ℕ) → slice_get cells i ≡ Some c → slice_get numbers i ≡ Some k → signals_of (numbered_wiring m cells numbers) c ≡ Some (symbol_signals m k)
  signals_there c i k is number =
      let here : get_or cells i c ≡ c = get_or_from_slice_get cells i c c is in
      ap (signals_of (numbered_wiring m cells numbers)) (sym here)
      ∙ (signals_at_place (numbered_wiring m cells numbers) wiring i c (slice_get_within cells i c is)
      ∙ (slice_get-map (symbol_signals m) numbers i ∙ ap (option_map (symbol_signals m)) number))

  pub wire_absent : (c : Cell) (s : ℕ) → (Contains cells c → ⊥) → wire_of (numbered_wiring m cells numbers) c s ≡ None
  wire_absent c s absent = (read_by_place (numbered_wiring m cells numbers) wiring).elsewhere c s absent

-- each wire is one of the inputs
signal_in : (m n s : ℕ) (numbers : List ℕ) (j : ℕ) (signal : Signal) (o : Option ℕ) → All (λ k. k < n) numbers → slice_get numbers j ≡ o →
    signal_for (option_map (symbol_signals m) o) s ≡ Some signal → IsSignal (n * m) signal
signal_in m n s numbers j signal None below is h = absurd (cc)
signal_in m n s numbers j signal (Some k) below is h =
    let inside : s < m = (let low = slice_get_within (symbol_signals m k) s signal h in omega (arith, length-map-range_with_len (λ t. signal_of (input m k t)) 0 m)) in
    let same : signal_of (input m k s) ≡ signal = some_same (signal_of (input m k s)) signal (sym (slice_of_range (λ t. signal_of (input m k t)) m s inside) ∙ h) in
    let at = below j k (slice_get_within numbers j k is) in
    let number : k < n = rw (get_or_from_slice_get numbers j k k is) at at in
    rw (sym same) (inputs_fit m n k s number inside)

pub are_inputs : (m n : ℕ) (cells : List Cell) (numbers : List ℕ) → All (λ k. k < n) numbers → AreInputs (n * m) (numbered_wiring m cells numbers)
are_inputs m n cells numbers below c s signal h =
    let j = position_or_len (λ d. is_eq (cell_cmp d c)) cells in
    signal_in m n s numbers j signal (slice_get numbers j) below refl (ap (λ o. signal_for o s) (sym (slice_get-map (symbol_signals m) numbers j)) ∙ h)
