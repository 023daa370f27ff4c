-- Views, and what they show. A view is a list of cell numbers, for example those of the cells of a box around a position. It
-- shows the symbols that a filling gives to these cells. A cell's number is its index in a list of cells, or the length of the
-- list if the cell isn't there.
use Rattle.std.specs.Prelude.{ℕ, ◌≡◌, List, ◌∷◌, map, unwrap_or, slice_get}
use Rattle.std.specs.{List.fold, List.range_with_len, Ordering.nat_cmp, Cmp.Lexicographic.slice_cmp, BTreeSet.insert_key}
use Rattle.dd_lattice.specs.{Place.Place, Cells.cell, Cells.shifted, declared.position.Cell.Cell}
use Rattle.dd_topology.specs.Topology.{reversed}
use Rattle.dd_formula.specs.LocalRule.{LocalRule}
use Rattle.dd_rows.specs.declared.views.Views.{Views}
use Rattle.dd_boxes.specs.{Cells.box_cells, Boxes.origin}
use Rattle.dd_numbered.specs.Numbering.{rank}

-- the view of the box around p, where `box` lists the cells of the box around the origin
abbrev pub view_of : List Cell → List Cell → Place → List ℕ
view_of cs box p = map (λ c. rank cs (shifted p c)) box

-- for each vector, the view of the box around the vector's opposite
abbrev pub givers_of : List Cell → List Cell → List Place → List (List ℕ)
givers_of cs box vs = map (λ v. view_of cs box (reversed v)) vs

-- the numbers of the cells at the origin
abbrev pub centre_of : List Cell → ℕ → List ℕ
centre_of cs nodes = map (λ a. rank cs (cell origin a)) (range_with_len 0 nodes)

-- the views v are those of the rule's discharge along the vectors vs, with boxes of this radius; the cells are numbered by the list cs
pub record AreViews (x : LocalRule) (radius : ℕ) (vs : List Place) (cs : List Cell) (v : Views) : Type 0 where
  pub centre : v.centre ≡ centre_of cs x.nodes
  pub origin : v.origin ≡ view_of cs (box_cells x radius) origin
  pub givers : v.givers ≡ givers_of cs (box_cells x radius) vs

-- the symbols of the cells with these numbers, with 0 for a number past the end of ss
abbrev pub symbols_at : List ℕ → List ℕ → List ℕ
symbols_at ss numbers = map (λ i. unwrap_or (slice_get ss i) 0) numbers

-- the patterns that a filling shows around the origin, and around the opposite of each vector
abbrev pub patterns_seen : Views → List ℕ → List (List ℕ)
patterns_seen v ss = symbols_at ss v.origin ∷ map (symbols_at ss) v.givers

-- the list of patterns ps, with the patterns of `more` inserted
abbrev pub with_patterns : List (List ℕ) → List (List ℕ) → List (List ℕ)
with_patterns ps more = fold (insert_key (slice_cmp nat_cmp)) ps more
