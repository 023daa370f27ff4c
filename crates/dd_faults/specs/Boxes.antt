-- The faults of the symbols, periods and shears of configurations.
use Rattle.std.specs.Prelude.{◌≡◌, ℕ, ◌≤◌, ◌+◌, ◌*◌, ◌%◌, List, [], ◌∷◌, ◌++◌, length, Bool, true, false, not, ◌&&◌, ◌||◌, ◌==◌, nat_le, nat_lt, Option, Some, None, slice_get, if◌then◌else◌}
use Rattle.std.specs.Option.{option_map_or}
use Rattle.dd_topology.specs.Sets.{allows}
use Rattle.dd_known.specs.{Known.dimension_of, Limits.most_in_box}
use Rattle.dd_faults.specs.Tree.{Name, Entry, Vector, Limit, Fault, Known, Context}
use Rattle.dd_faults.specs.{Order.when, Order.over, Names.place_of_name, Numbers.entry_value, Numbers.has_entries}

-- there is a node, and each node has a set of symbols
abbrev pub HasSets : Known → Type 0
HasSets k = (1 ≤ length k.setting.nodes) × (length k.setting.sets.allowed ≡ length k.setting.nodes)

-- whether the name is that of a symbol that the node allows
abbrev pub is_allowed : Context → ℕ → Name → Bool
is_allowed x a n = option_map_or (λ t. allows x.known.setting.sets a t) (place_of_name x.text x.known.setting.symbols n) false

-- the faults of a configuration's symbols from the one with the index k on; the symbols of a position are listed together, in the order of its nodes
abbrev pub symbol_faults : Context → ℕ → List Name → List Fault
symbol_faults x k [] = []
symbol_faults x k (n ∷ ns) = when (not (is_allowed x (k % length x.known.setting.nodes) n)) (Fault.Unknown n) ++ symbol_faults x (k + 1) ns

abbrev pub product : List ℕ → List Entry → ℕ
product bytes [] = 1
product bytes (e ∷ es) = entry_value bytes e * product bytes es

-- the number of cells of the fundamental box with these periods
abbrev pub cells_of : Context → Vector → ℕ
cells_of x v = product x.text v.entries * length x.known.setting.nodes

-- the period along an axis; 1 if there is no entry for it
abbrev pub period_at : List ℕ → Vector → ℕ → ℕ
period_at bytes v axis = option_map_or (entry_value bytes) (slice_get v.entries axis) 1

-- the shear, which is the first entry of its vector; 0 if there is no such entry
abbrev pub shear_of : List ℕ → Option Vector → ℕ
shear_of bytes None = 0
shear_of bytes (Some v) = option_map_or (entry_value bytes) (slice_get v.entries 0) 0

-- the shear fits: none is given, or it has one entry and there is a second axis
abbrev pub shear_fits : ℕ → Option Vector → Bool
shear_fits d None = true
shear_fits d (Some v) = nat_le 2 d && has_entries 1 v

abbrev pub box_fits : Context → Vector → Option Vector → ℕ → Bool
box_fits x periods shear count =
    has_entries (dimension_of x.known) periods && shear_fits (dimension_of x.known) shear && cells_of x periods == count

-- The faults of a configuration's periods, shear and number of symbols. If these fit, no period is 0, since there are as many cells as symbols, and
-- there is at least one symbol. So there is no test for a period of 0.
abbrev pub box_faults : Context → Vector → Option Vector → ℕ → List Fault
box_faults x periods shear count =
    if box_fits x periods shear count then over (nat_lt most_in_box count || nat_le (period_at x.text periods 0) (shear_of x.text shear)) Limit.Periods
    else Fault.Dimension ∷ []
