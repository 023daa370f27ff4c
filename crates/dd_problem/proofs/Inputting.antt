-- The loops that give cells inputs, cell by cell.
use Rattle.std.proofs.Common.{◌≡◌, ℕ, ◌+◌, ◌*◌, ◌<◌, ◌≤◌, List, [], ◌∷◌, ◌++◌, map, take, length, get_or, ap, sym, subst, ◌∙◌, arith, Some, option_map}
use Rattle.std.proofs.lemmas.List.{take_more, take_all, get_or-take, length-take, map-append, get_or_default}
use Rattle.std.proofs.lemmas.{List.FromFn.get_or-range_with_len, Map.Keys.Less-from_sorted}
use Rattle.std.proofs.lemmas.Option.{slice_get-map, slice_get-get_or, get_or_from_slice_get}
use Rattle.std.specs.{List.All, List.range_with_len, List.Sorted.IsStrictlySortedBy, declared.cmp.Ordering.TheVariants.Less}
use Rattle.dd_lattice.specs.{Order.cell_cmp, declared.position.Cell.Cell}
use Rattle.dd_circuit.specs.declared.gates.Signal.{Signal}
use Rattle.dd_compile.specs.Wiring.{Wiring, with_cell}
use Rattle.dd_pattern.specs.Tile.{Tile}
use Rattle.dd_problem.specs.pushing.{Near.number_at, Numbered.symbol_signals, Numbered.numbered_wiring}

-- the inputs of the first i cells
abbrev pub first_numbered : ℕ → List Cell → List ℕ → ℕ → Wiring
first_numbered m cells numbers i = numbered_wiring m (take i cells) (take i numbers)

same_wiring : (a b : Wiring) → a.cells ≡ b.cells → a.signals ≡ b.signals → a ≡ b
same_wiring a b cs ss = λ i. record { cells = cs i; signals = ss i }

pub numbered_step : (m : ℕ) (cells : List Cell) (numbers : List ℕ) (i k : ℕ) (d : Cell) (ss : List Signal) (now new : Wiring) → i < length cells → length numbers ≡ length cells →
    d ≡ get_or cells i d → k ≡ get_or numbers i 0 → ss ≡ symbol_signals m k → now ≡ first_numbered m cells numbers i → new ≡ with_cell now d ss →
    new ≡ first_numbered m cells numbers (i + 1)
numbered_step m cells numbers i k d ss now new h same here number signals so_far added =
    let more = take_more cells i d h in
    let more_numbers = take_more numbers i 0 (omega arith) in
    let first : new.cells ≡ take (i + 1) cells =
    ap (λ (w : Wiring). w.cells) added ∙ (ap (λ (w : Wiring). w.cells ++ d ∷ []) so_far ∙ (ap (λ c. take i cells ++ c ∷ []) here ∙ sym more)) in
    let second : new.signals ≡ map (symbol_signals m) (take (i + 1) numbers) =
    ap (λ (w : Wiring). w.signals) added
    ∙ (ap (λ (w : Wiring). w.signals ++ ss ∷ []) so_far
    ∙ (ap (λ x. map (symbol_signals m) (take i numbers) ++ x ∷ []) (signals ∙ ap (symbol_signals m) number)
    ∙ (sym (map-append (symbol_signals m) (take i numbers) (get_or numbers i 0 ∷ [])) ∙ ap (map (symbol_signals m)) (sym more_numbers)))) in
    same_wiring new (first_numbered m cells numbers (i + 1)) first second

pub numbered_whole : (m : ℕ) (cells : List Cell) (numbers : List ℕ) (i : ℕ) (now : Wiring) → length cells ≤ i → length numbers ≡ length cells →
    now ≡ first_numbered m cells numbers i → now ≡ numbered_wiring m cells numbers
numbered_whole m cells numbers i now h same so_far =
    so_far ∙ (ap (λ cs. numbered_wiring m cs (take i numbers)) (take_all i cells h) ∙ ap (λ ns. numbered_wiring m cells ns) (take_all i numbers (omega arith)))

-- in cell order the next cell comes after all that are already there
pub before_next : (m : ℕ) (cells : List Cell) (numbers : List ℕ) (i : ℕ) (d : Cell) (now : Wiring) → IsStrictlySortedBy cell_cmp cells → i < length cells → d ≡ get_or cells i d →
    now ≡ first_numbered m cells numbers i → All (λ c. cell_cmp c d ≡ Less) now.cells
before_next m cells numbers i d now up h here so_far = rw (ap (λ (w : Wiring). w.cells) so_far) (λ k e below.
    let within : k < i = omega (arith, below, length-take i cells) in
    rw (get_or-take i cells k e within) (ap (cell_cmp (get_or cells k e)) (here ∙ get_or_default cells i d e h) ∙ Less-from_sorted cell_cmp cells k i e up within h))

-- the numbers 0, 1, .. in their order
pub turn_read : (n i k : ℕ) → i < n → k ≡ i → k ≡ get_or (range_with_len 0 n) i 0
turn_read n i k h is =
    let at = get_or-range_with_len 0 n i 0 h in
    omega (arith, at, is)

-- the number that stands at a cell
pub number_few : (t : Tile) (m i most k : ℕ) (cells : List Cell) (d : Cell) → All (λ c. number_at t c * m + m ≤ most) cells → i < length cells → d ≡ get_or cells i d →
    k ≡ number_at t d → k * m + m ≤ most
number_few t m i most k cells d few h here is =
    subst (λ j. j * m + m ≤ most) (sym is) (subst (λ c. number_at t c * m + m ≤ most) (sym here) (few i d h))

pub number_read : (t : Tile) (i k : ℕ) (cells : List Cell) (d : Cell) → i < length cells → d ≡ get_or cells i d → k ≡ number_at t d → k ≡ get_or (map (number_at t) cells) i 0
number_read t i k cells d h here is =
    is ∙ sym (get_or_from_slice_get (map (number_at t) cells) i (number_at t d) 0
    (slice_get-map (number_at t) cells i ∙ ap (option_map (number_at t)) (slice_get-get_or cells i d h ∙ ap (λ c. Some c) (sym here))))
