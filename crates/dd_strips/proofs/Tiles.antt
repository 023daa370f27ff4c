-- Configurations with the strip's periods and no shear. In each of their slices all cells have symbols, and the slices repeat after the
-- configuration's period along the first axis. Let n be this period. From each x >= 0 on, n consecutive slices weigh as much as the fundamental box.
use Rattle.std.proofs.Common.{◌≡◌, ℕ, zero, suc, ◌+◌, ◌*◌, ◌/◌, ◌%◌, ◌<◌, Bool, List, [], ◌∷◌, length, map, get_or, ℤ, pos, ◌+ℤ◌, Option, None, refl, ap, sym, ◌∙◌, arith}
use Rattle.std.proofs.{Math.Nat.mod-eq_of_lt, Math.Nat.div-eq_of_lt, lemmas.Int.ints, lemmas.Bool.lt-ltb}
use Rattle.std.proofs.lemmas.Nat.{mod-mul-add, div-mul-add, div-add-mod', mod_below, div_below}
use Rattle.std.specs.Prelude.{◌-ℤ◌, ◌*ℤ◌, cond, nat_lt, slice_get, slice_index, unwrap_or, IsSomeAnd, sum_by}
use Rattle.std.specs.List.{All, range_with_len}
use Rattle.dd_lattice.specs.{Place.place, Cells.cell, declared.position.Cell.Cell}
use Rattle.dd_pattern.specs.{Periods.residue, Periods.quotient, Tile.Tile, Tile.IsTile, Tile.tile_index, Tile.tile_look}
use Rattle.dd_pattern.specs.lemmas.{TileSizes.below_table, Residues.residue_below, Residues.residue_small}
use Rattle.dd_formula.specs.LocalRule.{LocalRule}
use Rattle.dd_strip.specs.{declared.strip.Strip.Strip, Strips.IsFor, Strips.cells, Strips.positions}
use Rattle.dd_transfer.specs.{Windows.cell_at, Slices.RepeatsAcross, Slices.HasSlices, Slices.across, Slices.cell_from, Slices.symbols_from}
use Rattle.dd_transfer.specs.Laws.{AreEdgesOf}
use Rattle.dd_strips.specs.Strips.{slices_weight, tile_weight}
use Rattle.dd_strips.proofs.Residues.{residue_round}
use Rattle.dd_strips.proofs.Sums.{total_below, total_below-same, total_below-rows, total_below-turned, total_below-round, sum_by-listed, sum_by-places}
use Rattle.dd_strips.proofs.Walks.{weight_none, weight_longer}
use Rattle.dd_values.specs.lemmas.Numbers.{plus_zero}

-- the configuration has the strip's nodes and periods, no shear, and symbols of the alphabet
pub record IsOnStrip (r : LocalRule) (s : Strip) (t : Tile) : Type 0 where
  pub tile : IsTile t
  pub nodes : t.nodes ≡ s.nodes
  pub y_period : t.periods.y ≡ s.y
  pub z_period : t.periods.z ≡ s.z
  pub straight : t.periods.shear ≡ 0
  pub known : All (λ d. d < r.symbols) t.symbols

no_shear : (x q : ℤ) (k : ℕ) → k ≡ 0 → (x -ℤ q *ℤ pos k) ≡ x
no_shear x q k none = ap (λ (n : ℕ). x -ℤ q *ℤ pos n) none ∙ nothing x q
  where
    zero_times : (q : ℤ) → q *ℤ pos 0 ≡ pos 0
    zero_times q = omega (arith, ints)

    nothing : (x q : ℤ) → (x -ℤ q *ℤ pos 0) ≡ x
    nothing x q = let z = zero_times q in omega (arith, ints, z)

residue_again : (v : ℤ) (n k : ℕ) → 0 < k → n ≡ k → residue (pos (residue v k)) n ≡ residue v n
residue_again v n k some same =
    ap (residue (pos (residue v k))) same ∙ (residue_small (residue v k) k (residue_below v k some) ∙ ap (residue v) (sym same))

known_at : (P : ℕ → Type 0) (xs : List ℕ) (k : ℕ) → All P xs → k < length xs → IsSomeAnd (slice_get xs k) P
known_at P [] k all lt = absurd (omega arith)
known_at P (x ∷ xs) zero all lt = all 0 x (omega arith)
known_at P (x ∷ xs) (suc k) all lt = known_at P xs k (λ i d below. all (suc i) d (omega arith)) (omega arith)

value_at : (xs : List ℕ) (k : ℕ) → unwrap_or (slice_get xs k) 0 ≡ get_or xs k 0
value_at [] k = refl
value_at (x ∷ xs) zero = refl
value_at (x ∷ xs) (suc k) = value_at xs k

-- the place of a cell's symbol in the configuration's list: the cell has the node a, and its coordinates modulo the periods are x, y and z
abbrev pub spot : Tile → ℕ → ℕ → ℕ → ℕ → ℕ
spot t x y z a = ((z * t.periods.y + y) * t.periods.x + x) * t.nodes + a

module _ (r : LocalRule) (s : Strip) (t : Tile) (for : IsFor r s) (on : IsOnStrip r s t) where
  pub index_straight : (c : Cell) → tile_index t c ≡ spot t (residue c.position.x t.periods.x) (residue c.position.y t.periods.y) (residue c.position.z t.periods.z) c.node
  index_straight c =
      ap (λ (x : ℤ). spot t (residue x t.periods.x) (residue c.position.y t.periods.y) (residue c.position.z t.periods.z) c.node)
      (no_shear c.position.x (quotient c.position.y t.periods.y) t.periods.shear on.straight)

  index_below : (c : Cell) → c.node < t.nodes → tile_index t c < length t.symbols
  index_below c node =
      let p = t.periods in
      let y = residue_below c.position.y p.y on.tile.periods.y_some in
      let z = residue_below c.position.z p.z on.tile.periods.z_some in
      let x = residue_below c.position.x p.x on.tile.periods.x_some in
      let row = below_table _ _ _ _ z y in
      let all = below_table _ _ _ _ (below_table _ _ _ _ row x) node in
      omega (arith, all, index_straight c, on.tile.full)

  pub tile_repeats : RepeatsAcross s (tile_look t)
  tile_repeats c =
      let d = cell (across s c.position) c.node in
      let p = t.periods in
      let y : residue c.position.y p.y ≡ residue d.position.y p.y = sym (residue_again c.position.y p.y s.y for.sized.y_some on.y_period) in
      let z : residue c.position.z p.z ≡ residue d.position.z p.z = sym (residue_again c.position.z p.z s.z for.sized.z_some on.z_period) in
      let same : tile_index t c ≡ tile_index t d =
      index_straight c
      ∙ (ap (λ (k : ℕ). spot t (residue c.position.x p.x) k (residue c.position.z p.z) c.node) y
      ∙ (ap (λ (k : ℕ). spot t (residue c.position.x p.x) (residue d.position.y p.y) k c.node) z ∙ sym (index_straight d))) in
      ap (λ (i : ℕ). cond (nat_lt c.node t.nodes) (slice_get t.symbols i) None) same

  pub tile_has : (x : ℤ) (n : ℕ) → HasSlices r (tile_look t) x n
  tile_has x n c inside node =
      let below : c.node < t.nodes = omega (arith, node, on.nodes, for.nodes) in
      rw (lt-ltb _ _ below) (known_at (λ d. d < r.symbols) t.symbols (tile_index t c) on.known (index_below c below))

  -- one period further along the first axis, the configuration has the same symbols
  look_round : (x : ℤ) (y z : ℤ) (a : ℕ) → tile_look t (cell (place (x +ℤ pos t.periods.x) y z) a) ≡ tile_look t (cell (place x y z) a)
  look_round x y z a =
      let p = t.periods in
      let same : tile_index t (cell (place (x +ℤ pos p.x) y z) a) ≡ tile_index t (cell (place x y z) a) =
      index_straight (cell (place (x +ℤ pos p.x) y z) a)
      ∙ (ap (λ (k : ℕ). spot t k (residue y p.y) (residue z p.z) a) (residue_round x p.x on.tile.periods.x_some) ∙ sym (index_straight (cell (place x y z) a))) in
      ap (λ (i : ℕ). cond (nat_lt a t.nodes) (slice_get t.symbols i) None) same

  swapped : (x : ℤ) (m k : ℕ) → ((x +ℤ pos m) +ℤ pos k) ≡ (x +ℤ pos k) +ℤ pos m
  swapped x m k = omega (arith, ints)

  pub symbols_round : (x : ℤ) (n : ℕ) → symbols_from s (tile_look t) (x +ℤ pos t.periods.x) n ≡ symbols_from s (tile_look t) x n
  symbols_round x n =
      let same : (k : ℕ) → unwrap_or (tile_look t (cell_from s (x +ℤ pos t.periods.x) k)) 0 ≡ unwrap_or (tile_look t (cell_from s x k)) 0 = λ k.
      (let i = k / cells s in
      let j = k % cells s in
      ap (λ (z : ℤ). unwrap_or (tile_look t (cell_at s z j)) 0) (swapped x t.periods.x i)
      ∙ ap (λ (o : Option ℕ). unwrap_or o 0) (look_round (x +ℤ pos i) (pos (j / s.nodes % s.y)) (pos (j / s.nodes / s.y)) (j % s.nodes))) in
      ap (λ (f : ℕ → ℕ). map f (range_with_len 0 (n * cells s))) (λ i k. same k i)

  -- the symbol of a cell of a slice, found in the configuration's list
  pub slice_symbol : (x : ℤ) (k : ℕ) → k < cells s →
      unwrap_or (tile_look t (cell_from s x k)) 0 ≡ get_or t.symbols ((k / s.nodes * t.periods.x + residue x t.periods.x) * s.nodes + k % s.nodes) 0
  slice_symbol x k k_lt =
      let p = t.periods in
      let i = residue x p.x in
      let row = k / s.nodes in
      let c = cell_at s x k in
      let first : cell_from s x k ≡ c =
      ap (λ (q : ℕ). cell_at s (x +ℤ pos q) (k % cells s)) (div-eq_of_lt k_lt)
      ∙ (ap (λ (j : ℕ). cell_at s (x +ℤ pos 0) j) (mod-eq_of_lt k_lt) ∙ ap (λ (z : ℤ). cell_at s z k) (plus_zero x)) in
      let rows : row < s.y * s.z = div_below k s.nodes (s.y * s.z) for.sized.nodes_some (omega arith) in
      let y_lt : row % s.y < s.y = mod_below row s.y for.sized.y_some in
      let z_lt : row / s.y < s.z = div_below row s.y s.z for.sized.y_some (omega arith) in
      let node : k % s.nodes < t.nodes = omega (arith, mod_below k s.nodes for.sized.nodes_some, on.nodes) in
      let y_is : residue (pos (row % s.y)) p.y ≡ row % s.y = residue_small (row % s.y) p.y (omega (arith, y_lt, on.y_period)) in
      let z_is : residue (pos (row / s.y)) p.z ≡ row / s.y = residue_small (row / s.y) p.z (omega (arith, z_lt, on.z_period)) in
      let at : tile_index t c ≡ (row * p.x + i) * s.nodes + k % s.nodes =
      index_straight c
      ∙ (ap (λ (v : ℕ). spot t i v (residue (pos (row / s.y)) p.z) (k % s.nodes)) y_is
      ∙ (ap (λ (v : ℕ). spot t i (row % s.y) v (k % s.nodes)) z_is
      ∙ (ap (λ (v : ℕ). ((row / s.y * v + row % s.y) * p.x + i) * t.nodes + k % s.nodes) on.y_period
      ∙ (ap (λ (v : ℕ). ((row / s.y * s.y + row % s.y) * p.x + i) * v + k % s.nodes) on.nodes
      ∙ ap (λ (v : ℕ). (v * p.x + i) * s.nodes + k % s.nodes) (div-add-mod' row s.y))))) in
      ap (λ (d : Cell). unwrap_or (tile_look t d) 0) first
      ∙ (ap (λ (b : Bool). unwrap_or (cond b (slice_get t.symbols (tile_index t c)) None) 0) (lt-ltb _ _ node)
      ∙ (value_at t.symbols (tile_index t c) ∙ ap (λ (n : ℕ). get_or t.symbols n 0) at))

  -- the weights of the positions of the fundamental box form a table: each slice is a column, and each pair of y and z is a row
  module _ (ws : List ℕ) where
    -- the weight of the symbol at the place i of the list
    abbrev at : ℕ → ℕ
    at i = slice_index ws (get_or t.symbols i 0)

    -- the weight of the position in this row, in the slice with x = i
    abbrev here : ℕ → ℕ → ℕ
    here row i = total_below (λ a. at ((row * t.periods.x + i) * s.nodes + a)) s.nodes

    one_slice : (i : ℕ) → i < t.periods.x → slices_weight s ws (tile_look t) (pos i) 1 ≡ total_below (λ row. here row i) (positions s)
    one_slice i lt =
        let f = λ (k : ℕ). unwrap_or (tile_look t (cell_from s (pos i) k)) 0 in
        let g = λ (k : ℕ). at ((k / s.nodes * t.periods.x + i) * s.nodes + k % s.nodes) in
        let many : 1 * cells s ≡ positions s * s.nodes = omega arith in
        sum_by-listed (slice_index ws) f (1 * cells s)
        ∙ (ap (total_below (λ k. slice_index ws (f k))) many
        ∙ (total_below-same (λ k. slice_index ws (f k)) g (positions s * s.nodes) (λ k below. ap (slice_index ws) (slice_symbol (pos i) k (omega (arith, below)))
        ∙ ap (λ (v : ℕ). at ((k / s.nodes * t.periods.x + v) * s.nodes + k % s.nodes)) (residue_small i t.periods.x lt))
        ∙ (total_below-rows g (positions s) s.nodes
        ∙ total_below-same (λ row. total_below (λ a. g (row * s.nodes + a)) s.nodes) (λ row. here row i) (positions s)
        (λ row _. total_below-same (λ a. g (row * s.nodes + a)) (λ a. at ((row * t.periods.x + i) * s.nodes + a)) s.nodes
        (λ a a_lt. ap (λ (v : ℕ). at ((v * t.periods.x + i) * s.nodes + (row * s.nodes + a) % s.nodes)) (div-mul-add row s.nodes a a_lt)
        ∙ ap (λ (v : ℕ). at ((row * t.periods.x + i) * s.nodes + v)) (mod-mul-add row s.nodes a a_lt))))))

    box_rows : tile_weight ws t ≡ total_below (λ row. total_below (λ i. here row i) t.periods.x) (positions s)
    box_rows =
        let p = t.periods in
        let many : length t.symbols ≡ (positions s * p.x) * s.nodes =
        on.tile.full ∙ (ap (λ (n : ℕ). p.z * p.y * p.x * n) on.nodes ∙ (ap (λ (n : ℕ). n * p.y * p.x * s.nodes) on.z_period ∙ (ap (λ (n : ℕ). s.z * n * p.x * s.nodes) on.y_period ∙ turned s.z s.y p.x s.nodes))) in
        sum_by-places (slice_index ws) t.symbols
        ∙ (ap (total_below at) many
        ∙ (total_below-rows at (positions s * p.x) s.nodes ∙ total_below-rows (λ m. total_below (λ a. at (m * s.nodes + a)) s.nodes) (positions s) p.x))
      where
        turned : (z y x n : ℕ) → z * y * x * n ≡ (y * z * x) * n
        turned z y x n = ap (λ (v : ℕ). v * x * n) (let e : z * y ≡ y * z = omega arith in e)

    pub period_total : total_below (λ i. slices_weight s ws (tile_look t) (pos i) 1) t.periods.x ≡ tile_weight ws t
    period_total =
        total_below-same (λ i. slices_weight s ws (tile_look t) (pos i) 1) (λ i. total_below (λ row. here row i) (positions s)) t.periods.x one_slice
        ∙ (sym (total_below-turned here (positions s) t.periods.x) ∙ sym box_rows)

    module _ (edges : AreEdgesOf r s (tile_look t)) where
      pub slices_total : (x n : ℕ) → slices_weight s ws (tile_look t) (pos x) n ≡ total_below (λ k. slices_weight s ws (tile_look t) (pos (x + k)) 1) n
      slices_total x zero = weight_none r s (tile_look t) edges ws (pos x)
      slices_total x (suc n) =
          let rest = slices_total x n in
          let more = weight_longer r s (tile_look t) edges ws (pos x) n in
          let sum : slices_weight s ws (tile_look t) (pos x) (suc n) ≡ total_below (λ k. slices_weight s ws (tile_look t) (pos (x + k)) 1) n + slices_weight s ws (tile_look t) (pos (x + n)) 1 = omega (arith, rest, more) in
          sum

      -- let n be the period along the first axis; from each x >= 0 on, n consecutive slices weigh as much as the fundamental box
      pub period_weighs : (x : ℕ) → slices_weight s ws (tile_look t) (pos x) t.periods.x ≡ tile_weight ws t
      period_weighs x =
          slices_total x t.periods.x
          ∙ (total_below-round (λ k. slices_weight s ws (tile_look t) (pos k) 1) t.periods.x (λ k. ap (sum_by (slice_index ws)) (symbols_round (pos k) 1)) x
          ∙ period_total)
