-- What the views show in a filling determines the filling's patterns and the row that the filling requires. More fillings show no fewer patterns.
use Rattle.std.proofs.Common.{◌≡◌, ◌<◌, ◌≤◌, ◌+◌, ◌*◌, ◌-◌, ◌^◌, min, mul-le-mul_left, ℕ, List, [], ◌∷◌, ◌++◌, length, get_or, map, take, drop, sym, ◌∙◌, ap, arith}
use Rattle.std.proofs.lemmas.{List.take-append-drop, List.Concat.flat_map-append, List.Sums.fold-append, Simd.map-map}
use Rattle.std.specs.{Prelude.unwrap_or, Prelude.slice_get, List.flat_map, List.range_with_len, Ordering.nat_cmp}
use Rattle.std.specs.{Cmp.Lexicographic.slice_cmp, BTreeSet.insert_key}
use Rattle.dd_lattice.specs.{Place.Place, Cells.cell, Cells.shifted, declared.position.Cell.Cell}
use Rattle.dd_topology.specs.Topology.{reversed}
use Rattle.dd_pattern.specs.Weight.{total_weight}
use Rattle.dd_formula.specs.LocalRule.{LocalRule}
use Rattle.dd_rows.specs.{declared.views.Views.Views, Fillings.look_of}
use Rattle.dd_rows.specs.Patterns.{pattern_at, givers, patterns_in, in_lexicographic_order}
use Rattle.dd_rows.specs.Programs.{coefficients, row_of, column_count, most_columns}
use Rattle.dd_rows.specs.listing.Views.{AreViews, view_of, symbols_at, patterns_seen, with_patterns}
use Rattle.dd_rows.specs.listing.Sparse.{required_row}
use Rattle.dd_boxes.specs.{Cells.box_cells, Boxes.origin}
use Rattle.dd_numbered.specs.Numbering.{rank}
use Rattle.dd_rows.proofs.{Steps.flat_map_next, Collected.front_folded, SortedLists.insert_grows}
use Rattle.dd_values.specs.lemmas.Lists.{flat_map_agree, map_alike}

module _ (x : LocalRule) (radius : ℕ) (vs : List Place) (cs : List Cell) (v : Views) (are : AreViews x radius vs cs v) where
  shown : (ss : List ℕ) (p : Place) → symbols_at ss (view_of cs (box_cells x radius) p) ≡ pattern_at (box_cells x radius) (look_of cs ss) p
  shown ss p = map-map (λ i. unwrap_or (slice_get ss i) 0) (λ c. rank cs (shifted p c)) (box_cells x radius)

  out_shown : (ss : List ℕ) → symbols_at ss v.origin ≡ pattern_at (box_cells x radius) (look_of cs ss) origin
  out_shown ss = ap (symbols_at ss) are.origin ∙ shown ss origin

  ins_shown : (ss : List ℕ) → map (symbols_at ss) v.givers ≡ givers (box_cells x radius) vs (look_of cs ss)
  ins_shown ss =
      ap (map (symbols_at ss)) are.givers
      ∙ (map-map (symbols_at ss) (λ w. view_of cs (box_cells x radius) (reversed w)) vs
      ∙ map_alike (λ w. symbols_at ss (view_of cs (box_cells x radius) (reversed w))) (λ w. pattern_at (box_cells x radius) (look_of cs ss) (reversed w)) (λ w. shown ss (reversed w)) vs)

  patterns_shown : (ss : List ℕ) → patterns_seen v ss ≡ patterns_in (box_cells x radius) vs (look_of cs ss)
  patterns_shown ss =
      ap (λ q. q ∷ map (symbols_at ss) v.givers) (out_shown ss)
      ∙ ap (λ (qs : List (List ℕ)). pattern_at (box_cells x radius) (look_of cs ss) origin ∷ qs) (ins_shown ss)

  pub all_shown : (fillings : List (List ℕ)) →
      in_lexicographic_order (flat_map (patterns_seen v) fillings) ≡ in_lexicographic_order (flat_map (λ ss. patterns_in (box_cells x radius) vs (look_of cs ss)) fillings)
  all_shown fillings = ap in_lexicographic_order (flat_map_agree (patterns_seen v) (λ ss. patterns_in (box_cells x radius) vs (look_of cs ss)) patterns_shown fillings)

  required_is : (ps : List (List ℕ)) (ws ss : List ℕ) → required_row ps v ws ss ≡ row_of x ws radius vs ps (look_of cs ss)
  required_is ps ws ss =
      let box = box_cells x radius in
      let look = look_of cs ss in
      let sides : coefficients ps (symbols_at ss v.origin) (map (symbols_at ss) v.givers) ≡ coefficients ps (pattern_at box look origin) (givers box vs look) =
      ap (λ out. coefficients ps out (map (symbols_at ss) v.givers)) (out_shown ss) ∙ ap (coefficients ps (pattern_at box look origin)) (ins_shown ss) in
      let weight : total_weight ws (symbols_at ss v.centre) ≡ total_weight ws (map (λ a. unwrap_or (look (cell origin a)) 0) (range_with_len 0 x.nodes)) =
      ap (total_weight ws) (ap (symbols_at ss) are.centre ∙ map-map (λ i. unwrap_or (slice_get ss i) 0) (λ a. rank cs (cell origin a)) (range_with_len 0 x.nodes)) in
      λ i. record { coefficients = sides i; bound = weight i }

  pub all_required : (ps : List (List ℕ)) (ws : List ℕ) (fillings : List (List ℕ)) → map (required_row ps v ws) fillings ≡ map (λ ss. row_of x ws radius vs ps (look_of cs ss)) fillings
  all_required ps ws fillings = map_alike (required_row ps v ws) (λ ss. row_of x ws radius vs ps (look_of cs ss)) (required_is ps ws) fillings

-- the patterns of one more filling
pub patterns_next : (f : List ℕ → List (List ℕ)) (lists : List (List ℕ)) (i : ℕ) (d : List ℕ) (old new : List (List ℕ)) → i < length lists →
    old ≡ in_lexicographic_order (flat_map f (take i lists)) → d ≡ get_or lists i d → new ≡ with_patterns old (f d) → new ≡ in_lexicographic_order (flat_map f (take (i + 1) lists))
patterns_next f lists i d old new below before at is =
    is ∙ (ap (λ ps. with_patterns ps (f d)) before
    ∙ (sym (fold-append (insert_key (slice_cmp nat_cmp)) [] (flat_map f (take i lists)) (f d))
    ∙ ap in_lexicographic_order (ap (λ e. flat_map f (take i lists) ++ f e) at ∙ sym (flat_map_next f lists i d below))))

-- more fillings show no fewer patterns
pub patterns_grow : (f : List ℕ → List (List ℕ)) (lists : List (List ℕ)) (n : ℕ) →
    length (in_lexicographic_order (flat_map f (take n lists))) ≤ length (in_lexicographic_order (flat_map f lists))
patterns_grow f lists n =
    let whole : flat_map f lists ≡ flat_map f (take n lists) ++ flat_map f (drop n lists) = ap (flat_map f) (sym (take-append-drop n lists)) ∙ flat_map-append f (take n lists) (drop n lists) in
    let sizes = ap (λ ps. length (in_lexicographic_order ps)) whole in
    let front = front_folded (insert_key (slice_cmp nat_cmp)) (insert_grows (slice_cmp nat_cmp)) [] (flat_map f (take n lists)) (flat_map f (drop n lists)) in
    omega (arith, sizes, front)

-- if there are too many columns so far, there are too many in the end
pub columns_large : (v now all product : ℕ) → product ≡ min (v * now) (2 ^ 64 - 1) → 256 ≤ product → now ≤ all → most_columns < column_count v all
columns_large v now all product is many more =
    let times = mul-le-mul_left v more in
    omega (arith, is, many, times)
