-- A program is put together from the fillings, their patterns and their rows.
use Rattle.std.proofs.Common.{◌≡◌, ◌<◌, ◌≤◌, ◌*◌, ℕ, List, ◌∷◌, length, map, sym, ◌∙◌, ap, subst, inl, inr}
use Rattle.std.proofs.lemmas.List.{length-map, Elements.All-weaker, FromFn.length-map-range_with_len}
use Rattle.std.specs.List.{All}
use Rattle.dd_lattice.specs.{Place.Place, Cells.cell, declared.position.Cell.Cell}
use Rattle.dd_topology.specs.Topology.{reversed}
use Rattle.dd_expansion.specs.Limits.{greatest}
use Rattle.dd_formula.specs.LocalRule.{LocalRule}
use Rattle.dd_rows.specs.declared.{rows.Row.Row, rows.Rows.Rows, fault.RowsFault.RowsFault}
use Rattle.dd_rows.specs.{declared.fault.RowsFault.TheVariants.Memory, declared.views.Views.Views, Domains.IsGround, Faults.OnLarge}
use Rattle.dd_rows.specs.{Fillings.look_of, Fillings.fillings, Fillings.HasFewFillings, Patterns.patterns}
use Rattle.dd_rows.specs.Programs.{rows, first_seen, greatest_weight_row, row_of, column_count, most_columns, most_rows, IsProgramOf, IsLargeProgram}
use Rattle.dd_rows.specs.listing.{Levels.IsWord, Views.AreViews, Views.view_of}
use Rattle.dd_rows.specs.listing.Sparse.{capped, required_row}
use Rattle.dd_rows.specs.listing.Shown.{patterns_shown, rows_shown, IsProgramShown, IsLargeShown}
use Rattle.dd_rows.specs.lemmas.Growing.{fillings_are}
use Rattle.dd_boxes.specs.{Cells.box_cells, Boxes.origin}
use Rattle.dd_numbered.specs.Numbering.{rank}
use Rattle.dd_rows.proofs.RowLaws.{all_shown, all_required}

pub memory_fault : (fault : RowsFault) (P : Type 0) → fault ≡ Memory → OnLarge fault P
memory_fault fault P is = subst (λ f. OnLarge f P) (sym is) tt

-- the symbols of the fillings are below the number of symbols, so each has a weight
pub fillings_known : (x : LocalRule) (cs : List Cell) (lists : List (List ℕ)) (n : ℕ) → lists ≡ fillings x cs → n ≡ x.symbols → All (λ ss. All (λ s. s < n) ss) lists
fillings_known x cs lists n is size =
    subst (λ ls. All (λ ss. All (λ s. s < n) ss) ls) (sym is)
    (All-weaker (IsWord x (length cs)) (λ ss. All (λ s. s < n) ss) (λ ss w. subst (λ m. All (λ s. s < m) ss) (sym size) w.below) (fillings x cs) (fillings_are x cs))

module _ (x : LocalRule) (radius margin : ℕ) (vs : List Place) (cs : List Cell) (v : Views) (are : AreViews x radius vs cs v) (lists : List (List ℕ)) (listed : lists ≡ fillings x cs) where
  pub centre_size : length v.centre ≡ x.nodes
  centre_size = ap length are.centre ∙ length-map-range_with_len (λ a. rank cs (cell origin a)) 0 x.nodes

  givers_size : length v.givers ≡ length vs
  givers_size = ap length are.givers ∙ length-map vs (λ w. view_of cs (box_cells x radius) (reversed w))

  shown_are : patterns_shown v lists ≡ patterns x radius vs cs
  shown_are = ap (patterns_shown v) listed ∙ all_shown x radius vs cs v are (fillings x cs)

  module _ (ws : List ℕ) (most : ℕ) (heaviest : most ≡ x.nodes * greatest ws) where
    rows_are : rows_shown v ws most lists ≡ rows x ws radius vs cs
    rows_are =
        let ps = patterns_shown v lists in
        let qs = patterns x radius vs cs in
        let first : capped (length v.givers) (length ps) most ≡ greatest_weight_row x ws vs qs =
        ap (λ n. capped n (length ps) most) givers_size ∙ (ap (λ rs. capped (length vs) (length rs) most) shown_are ∙ ap (capped (length vs) (length qs)) heaviest) in
        let others : map (required_row ps v ws) lists ≡ map (λ ss. row_of x ws radius vs qs (look_of cs ss)) (fillings x cs) =
        ap (λ rs. map (required_row rs v ws) lists) shown_are ∙ (ap (map (required_row qs v ws)) listed ∙ all_required x radius vs cs v are qs ws (fillings x cs)) in
        ap first_seen (ap (λ (r : Row). r ∷ map (required_row ps v ws) lists) first ∙ ap (λ (rs : List Row). greatest_weight_row x ws vs qs ∷ rs) others)

    pub program_from : IsGround x radius margin vs cs → HasFewFillings x cs → (p : Rows) → IsProgramShown v ws most lists p → IsProgramOf x ws radius margin vs p
    program_from ground few p shown = record {
      ground = cs;
      is_ground = ground;
      patterns_are = shown.patterns_are ∙ shown_are;
      rows_are = shown.rows_are ∙ rows_are;
      few_fillings = few;
      few_columns = subst (λ n. column_count n (length p.patterns) ≤ most_columns) givers_size shown.few_columns;
      few_rows = shown.few_rows;
    }

    pub large_from : IsGround x radius margin vs cs → IsLargeShown v ws most lists → IsLargeProgram x ws radius margin vs
    large_from ground (inl wide) = record {
      ground = cs;
      is_ground = ground;
      many = inr (inl (subst (λ qs. most_columns < column_count (length vs) (length qs)) shown_are (subst (λ n. most_columns < column_count n (length (patterns_shown v lists))) givers_size wide)));
    }
    large_from ground (inr many) = record { ground = cs; is_ground = ground; many = inr (inr (subst (λ (rs : List Row). most_rows < length rs) rows_are many)) }
