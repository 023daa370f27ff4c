-- What the calls in `torus_clauses` return.
use Rattle.std.proofs.Common.{◌≡◌, ℕ, ◌+◌, ◌*◌, ◌≤◌, ◌<◌, ◌^◌, true, List, map, length, refl, ap, sym, subst, ◌∙◌, arith}
use Rattle.std.proofs.lemmas.{Nat.mul-le, List.Elements.All-map, List.Elements.All-weaker}
use Rattle.std.proofs.lemmas.{List.FromFn.length-range_with_len, Result.IfOk-weaker}
use Rattle.std.specs.Prelude.{Result, Ok, Err, IfOk, MatchResult, is_ok}
use Rattle.std.specs.List.{All, range_with_len, Sorted.IsStrictlySortedBy}
use Rattle.dd_lattice.specs.{Order.cell_cmp, Boxes.Bounds, Boxes.volume as box_volume, declared.position.Cell.Cell}
use Rattle.dd_pattern.specs.{declared.periods.Periods.Periods, Periods.periods_volume}
use Rattle.dd_pattern.specs.{Tile.Tile, Tile.IsPeriodic, Tile.tile, Tile.fundamental, lemmas.TileSizes.index_below, lemmas.TileLaws.span_is}
use Rattle.dd_clause.specs.Clauses.{ClauseList}
use Rattle.dd_compile.specs.Wiring.{Wiring}
use Rattle.dd_formula.specs.LocalRule.{LocalRule, IsRule}
use Rattle.dd_boxes.specs.{Goals.GoalOf, Counts.question_clauses, Counts.most_clauses, TorusPeriods.AreTorusPeriods}
use Rattle.dd_problem.specs.{pushing.GoalFacts.HasGoalFacts, Layouts.cells_in, Layouts.torus_cells}
use Rattle.dd_problem.specs.pushing.Near.{torus_layout, near_cells, number_at, numbered_by, numbered_tile, torus_inputs}
use Rattle.dd_problem.specs.{Problems.torus_problem, pushing.Pushed.AreInputs, pushing.Pushed.is_goal_wired, pushing.Pushed.wired_problem}
use Rattle.dd_problem.specs.{Shows.ShowsTorus, lemmas.RangesLeft.row_within, lemmas.CellOrder.cells_nodes, lemmas.Counting.variables_below}
use Rattle.dd_problem.specs.lemmas.NumberedWires.{are_inputs}
use Rattle.dd_problem.specs.lemmas.TorusLayout.{torus_size, product_turned, length-torus_cells}
use Rattle.dd_problem.specs.lemmas.TorusShows.{torus_shows}
use Rattle.dd_problem.proofs.NearCells.{near_ascends, near_nodes as near_nodes_of}
use Rattle.dd_problem.proofs.TorusInputs.{numbers_tile, number_is, torus_values, torus_is_problem, torus_goal_wired}

-- the upper bound on the number of the question's clauses is at most two million
abbrev pub IsFew : LocalRule → GoalOf → Periods → Type 0
IsFew x g periods = question_clauses x g (periods_volume periods) ≤ most_clauses

module _ (x : LocalRule) (periods : Periods) (rule : IsRule x) (ok : AreTorusPeriods x.dimension x.nodes periods) where
  volume_is : box_volume (fundamental periods) ≡ periods_volume periods
  volume_is =
      rw (span_is periods.x ok.periods.x_some, span_is periods.y (ok.periods.y_some), span_is periods.z (ok.periods.z_some))
      (product_turned periods.x periods.y periods.z)

  pub size_small : torus_size x periods ≤ 65536
  size_small = ok.few

  -- the configuration that has numbers in place of symbols
  numbering_is : (d nodes : ℕ) (items : List ℕ) → d ≡ x.dimension → nodes ≡ x.nodes →
      items ≡ range_with_len 0 (periods_volume periods * nodes) → tile d periods nodes items ≡ numbered_tile x periods
  numbering_is d nodes items dim same is =
      ap (λ k. tile k periods nodes items) dim
      ∙ (ap (λ k. tile x.dimension periods k items) same
      ∙ ap (tile x.dimension periods x.nodes) (is ∙ ap (λ k. range_with_len 0 (periods_volume periods * k)) same))

  pub count_fits : (nodes : ℕ) → nodes ≡ x.nodes → periods_volume periods * nodes ≤ 65536
  count_fits nodes same =
      let all = size_small in
      let is = ap (λ k. periods_volume periods * k) same in
      omega (arith, all, is)

  pub tile_ok : {B : Type 0} (r : Result Tile B) (t : Tile) (S : B → Type 0) → MatchResult r (λ p. (p ≡ t) × IsPeriodic t) (λ back. S back × (IsPeriodic t → ⊥)) → IsPeriodic t → is_ok r ≡ true
  tile_ok (Ok a) t S h tile = refl
  tile_ok (Err e) t S h tile = absurd (h.1 tile)

  pub numbering_made : {B : Type 0} (r : Result Tile B) (S : B → Type 0) (d nodes : ℕ) (items : List ℕ) → d ≡ x.dimension → nodes ≡ x.nodes →
      items ≡ range_with_len 0 (periods_volume periods * nodes) →
      MatchResult r (λ p. (p ≡ tile d periods nodes items) × IsPeriodic (tile d periods nodes items)) (λ back. S back × (IsPeriodic (tile d periods nodes items) → ⊥)) → is_ok r ≡ true
  numbering_made r S d nodes items dim same is h =
      tile_ok r (tile d periods nodes items) S h (subst IsPeriodic (sym (numbering_is d nodes items dim same is)) (numbers_tile x periods rule ok))

  pub cells_few : (nodes : ℕ) (b : Bounds) → nodes ≡ x.nodes → b ≡ fundamental periods → box_volume b * nodes ≤ 2 ^ 24
  cells_few nodes b same is =
      let small = size_small in
      let all : box_volume b * nodes ≡ torus_size x periods = ap (λ k. box_volume b * k) same ∙ (ap (λ c. box_volume c * x.nodes) is ∙ ap (λ k. k * x.nodes) volume_is) in
      omega (arith, small, all)

  -- the cells of the torus
  pub cells_are : (nodes : ℕ) (b : Bounds) (items cells : List Cell) → nodes ≡ x.nodes → b ≡ fundamental periods → items ≡ cells_in b nodes → cells ≡ items →
      cells ≡ torus_cells x periods
  cells_are nodes b items cells same is listed read = read ∙ (listed ∙ (ap (cells_in b) same ∙ ap (λ c. cells_in c x.nodes) is))

  pub nodes_there : (cells : List Cell) → cells ≡ torus_cells x periods → All (λ (d : Cell). d.node < x.nodes) cells
  nodes_there cells read = subst (All (λ (d : Cell). d.node < x.nodes)) (sym read) (cells_nodes (fundamental periods) x.nodes rule.nodes.0)

  number_below : (c : Cell) → c.node < x.nodes → number_at (numbered_tile x periods) c < length (torus_cells x periods)
  number_below c node =
      let is = number_is x periods rule ok c node in
      let low = index_below (numbered_tile x periods) (numbers_tile x periods rule ok).tile c node in
      omega (arith, is, low, length-range_with_len 0 (torus_size x periods), length-torus_cells x periods rule ok)

  input_few : (c : Cell) → c.node < x.nodes → number_at (numbered_tile x periods) c * x.symbols + x.symbols ≤ 2 ^ 24
  input_few c node =
      let k = number_at (numbered_tile x periods) c in
      let row = row_within x.symbols k (length (torus_cells x periods)) (number_below c node) in
      let most = size_small in
      let all : length (torus_cells x periods) * x.symbols ≤ 65536 * 16 = mul-le (length (torus_cells x periods)) x.symbols 65536 16 (omega (arith, most, length-torus_cells x periods rule ok)) rule.symbols.1 in
      omega (arith, row, all)

-- what the premise and the goal read
module _ (x : LocalRule) (periods : Periods) (rule : IsRule x) (ok : AreTorusPeriods x.dimension x.nodes periods) (g : GoalOf) (good : HasGoalFacts x g) where
  abbrev near : List Cell
  near = near_cells x g (torus_cells x periods)

  pub near_in_order : (cells : List Cell) → cells ≡ near → IsStrictlySortedBy cell_cmp cells
  near_in_order cells read = subst (IsStrictlySortedBy cell_cmp) (sym read) (near_ascends x g (torus_cells x periods))

  pub near_are : (items found cells : List Cell) → items ≡ near_cells x g cells → found ≡ items → cells ≡ torus_cells x periods → found ≡ near
  near_are items found cells listed read is = read ∙ (listed ∙ ap (near_cells x g) is)

  near_nodes : All (λ (c : Cell). c.node < x.nodes) near
  near_nodes = near_nodes_of x g (torus_cells x periods) rule (cells_nodes (fundamental periods) x.nodes rule.nodes.0)

  pub near_nodes_there : (cells : List Cell) (t : Tile) → cells ≡ near → t ≡ numbered_tile x periods → All (λ (c : Cell). c.node < t.nodes) cells
  near_nodes_there cells t read is =
      subst (All (λ (c : Cell). c.node < t.nodes)) (sym read) (subst (λ (u : Tile). All (λ (c : Cell). c.node < u.nodes) near) (sym is) near_nodes)

  abbrev wires : Wiring
  wires = torus_inputs x g periods

  pub wires_are : (s : ℕ) (t : Tile) (cells : List Cell) → s ≡ x.symbols → t ≡ numbered_tile x periods → cells ≡ near → numbered_by s t cells ≡ wires
  wires_are s t cells same numbers read =
      ap (λ m. numbered_by m t cells) same ∙ (ap (λ u. numbered_by x.symbols u cells) numbers ∙ ap (numbered_by x.symbols (numbered_tile x periods)) read)

  pub numbers_few : (cells : List Cell) (t : Tile) (s : ℕ) → cells ≡ near → t ≡ numbered_tile x periods → s ≡ x.symbols →
      All (λ c. number_at t c * s + s ≤ 2 ^ 24) cells
  numbers_few cells t s read is same =
      subst (All (λ c. number_at t c * s + s ≤ 2 ^ 24)) (sym read)
      (subst (λ m. All (λ c. number_at t c * m + m ≤ 2 ^ 24) near) (sym same)
      (subst (λ (u : Tile). All (λ c. number_at u c * x.symbols + x.symbols ≤ 2 ^ 24) near) (sym is)
      (All-weaker (λ (c : Cell). c.node < x.nodes) (λ c. number_at (numbered_tile x periods) c * x.symbols + x.symbols ≤ 2 ^ 24) (input_few x periods rule ok) near near_nodes)))

  pub signals_there : (cells : List Cell) (w : Wiring) → w ≡ wires → cells ≡ torus_cells x periods → AreInputs (length cells * x.symbols) w
  signals_there cells w is read =
      subst (AreInputs (length cells * x.symbols)) (sym is) (subst (λ (cs : List Cell). AreInputs (length cs * x.symbols) wires) (sym read)
      (are_inputs x.symbols (length (torus_cells x periods)) near (map (number_at (numbered_tile x periods)) near)
      (All-map (λ k. k < length (torus_cells x periods)) (number_at (numbered_tile x periods)) near
      (All-weaker (λ (c : Cell). c.node < x.nodes) (λ c. number_at (numbered_tile x periods) c < length (torus_cells x periods)) (number_below x periods rule ok) near near_nodes))))

  module _ (cells : List Cell) (w : Wiring) (is : w ≡ wires) (read : cells ≡ torus_cells x periods) where
    pub goal_wired : is_goal_wired w (length cells * x.symbols) g ≡ true
    goal_wired =
        ap (λ v. is_goal_wired v (length cells * x.symbols) g) is
        ∙ (ap (λ (cs : List Cell). is_goal_wired wires (length cs * x.symbols) g) read ∙ torus_goal_wired x periods rule ok g good)

    problem_is : wired_problem w x g cells ≡ torus_problem x g periods
    problem_is = ap (λ v. wired_problem v x g cells) is ∙ (ap (wired_problem wires x g) read ∙ torus_is_problem x periods rule ok g good)

    pub variables_few : IsFew x g periods → (wired_problem w x g cells).variables ≤ 2 ^ 24
    variables_few few =
        let all = variables_below (torus_layout x g periods) x g (fundamental periods) refl in
        let count = ap (question_clauses x g) (volume_is x periods rule ok) in
        let same = ap (λ (k : ClauseList). k.variables) problem_is in
        omega (arith, all, count, same, few)

    pub exactly : {E : Type 0} (r : Result ClauseList E) → IfOk r (λ cnf. cnf ≡ wired_problem w x g cells) → IfOk r (λ cnf. cnf ≡ torus_problem x g periods)
    exactly r made = IfOk-weaker r (λ cnf. cnf ≡ wired_problem w x g cells) (λ cnf. cnf ≡ torus_problem x g periods) (λ cnf h. h ∙ problem_is) made

    pub showing : {E : Type 0} (r : Result ClauseList E) → IfOk r (λ cnf. cnf ≡ wired_problem w x g cells) → IfOk r (λ cnf. ShowsTorus cnf.clauses x g periods)
    showing r made =
        IfOk-weaker r (λ cnf. cnf ≡ torus_problem x g periods) (λ cnf. ShowsTorus cnf.clauses x g periods)
        (λ cnf h. subst (λ (k : ClauseList). ShowsTorus k.clauses x g periods) (sym h) (torus_shows x g periods rule good ok (torus_values x periods rule ok g good))) (exactly r made)
