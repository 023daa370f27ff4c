-- In a discharge along some vectors, the patterns around the origin and around the positions that give to it.
use Rattle.std.specs.Prelude.{ℕ, List, [], ◌∷◌, map, unwrap_or}
use Rattle.std.specs.{List.fold, List.flat_map, List.position_or_len, Ordering.nat_cmp, Ordering.is_eq, Cmp.Lexicographic.slice_cmp}
use Rattle.std.specs.BTreeSet.{insert_key}
use Rattle.dd_lattice.specs.{Place.Place, Cells.shifted, declared.position.Cell.Cell}
use Rattle.dd_topology.specs.Topology.{reversed}
use Rattle.dd_pattern.specs.Reading.{Look}
use Rattle.dd_formula.specs.LocalRule.{LocalRule}
pub use Rattle.dd_boxes.specs.Boxes.{origin}
use Rattle.dd_boxes.specs.Cells.{box_cells}
use Rattle.dd_rows.specs.Fillings.{look_of, fillings}

-- the pattern around the position p: the symbols of the box moved to p, with 0 for a cell without a symbol
abbrev pub pattern_at : List Cell → Look → Place → List ℕ
pattern_at box look p = map (λ c. unwrap_or (look (shifted p c)) 0) box

-- The patterns around the positions from which the origin receives. Along the vector v it receives from -v.
abbrev pub givers : List Cell → List Place → Look → List (List ℕ)
givers box vs look = map (λ v. pattern_at box look (reversed v)) vs

-- the pattern around the origin, then those around the positions from which it receives
abbrev pub patterns_in : List Cell → List Place → Look → List (List ℕ)
patterns_in box vs look = pattern_at box look origin ∷ givers box vs look

-- the lists in lexicographic order, each once
abbrev pub in_lexicographic_order : List (List ℕ) → List (List ℕ)
in_lexicographic_order lists = fold (insert_key (slice_cmp nat_cmp)) [] lists

-- the patterns that occur around the origin, or around a position that gives to it, in some admissible filling of the cells
abbrev pub patterns : LocalRule → ℕ → List Place → List Cell → List (List ℕ)
patterns x radius vs cs = in_lexicographic_order (flat_map (λ ss. patterns_in (box_cells x radius) vs (look_of cs ss)) (fillings x cs))

-- the index of the pattern q in the list, or the list's length if it isn't there
abbrev pub pattern_number : List (List ℕ) → List ℕ → ℕ
pattern_number ps q = position_or_len (λ p. is_eq (slice_cmp nat_cmp p q)) ps
