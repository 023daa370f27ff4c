-- The clauses of a torus say what the question asks about the torus's configurations.
use Rattle.std.proofs.Common.{◌≡◌, ℕ, ◌<◌, Bool, true, List, length, get_or, refl, ap, sym, subst, ◌∙◌, arith, Some}
use Rattle.std.proofs.lemmas.Bool.{and_parts, ltb-true, lt-ltb}
use Rattle.std.proofs.lemmas.Option.{slice_get-get_or, slice_get_within}
use Rattle.std.specs.{Prelude.is_some, Prelude.IfSome, Prelude.nat_lt, Prelude.slice_get, List.list_all}
use Rattle.dd_lattice.specs.{Cells.cell, Cells.shifted, declared.position.Cell.Cell}
use Rattle.dd_pattern.specs.{declared.periods.Periods.Periods, Periods.base_of, Tile.Tile, Tile.tile_index, Tile.tile_look}
use Rattle.dd_pattern.specs.lemmas.TileSizes.{index_below}
use Rattle.dd_expansion.specs.Placed.{is_flat}
use Rattle.dd_formula.specs.LocalRule.{LocalRule, rule_allows, IsRule, is_true, reads_at, is_of}
use Rattle.dd_formula.specs.Living.{Fits, Lives}
use Rattle.dd_clause.specs.Clauses.{Satisfies}
use Rattle.dd_circuit.specs.lemmas.ValueLaws.{Alike}
use Rattle.dd_cnf.specs.lemmas.ModelLaws.{Satisfies-is_satisfied, is_satisfied-Satisfies}
use Rattle.dd_boxes.specs.{Goals.GoalOf, Goals.breaks, Goals.differ, Goals.always, Witnesses.HasPeriods, Witnesses.IsWitness}
use Rattle.dd_boxes.specs.{lemmas.RuleLaws.keeps_at, lemmas.RuleLaws.list_all_weaker, TorusPeriods.AreTorusPeriods}
use Rattle.dd_problem.specs.{pushing.GoalFacts.HasGoalFacts, Layouts.torus, Layouts.torus_cells, Layouts.fits_in, pushing.Near.torus_layout}
use Rattle.dd_problem.specs.{Problems.problem_clauses, Problems.torus_problem, Shows.ShowsTorus, lemmas.ValueWires.GoalWired}
use Rattle.dd_problem.specs.lemmas.Parted.{premise_holds}
use Rattle.dd_problem.specs.lemmas.Reading.{Stands, IsWired, look_allowed, read_symbols, problem_read}
use Rattle.dd_problem.specs.lemmas.{Writing.assignment, Writing.problem_written, OwnVariables.satisfied_alike}
use Rattle.dd_problem.specs.lemmas.Filtered.{filter_all, filter_at}
use Rattle.dd_problem.specs.lemmas.Wiring.{goal_from_test, test_from_goal, HasReads, wired_layout}
use Rattle.dd_problem.specs.lemmas.TorusLayout.{torus_of, torus_size, length-torus_cells, torus_is_tile, torus_is_layout, torus_cell_there, torus_cell_at, torus_index_at, flat_place, look_periodic}

node_of : (r : LocalRule) (c : Cell) → is_of r c ≡ true → nat_lt c.node r.nodes ≡ true
node_of r c h = (and_parts (is_flat r.dimension c.position) (nat_lt c.node r.nodes) h).1

-- a rule reads only cells whose nodes exist
pub reads_nodes : (r : LocalRule) (a : ℕ) → IsRule r → a < r.nodes → list_all (λ c. nat_lt c.node r.nodes) (reads_at r a) ≡ true
reads_nodes r a ok node = list_all_weaker (is_of r) (λ c. nat_lt c.node r.nodes) (node_of r) (reads_at r a) (ok.placed a node)

pub goal_reads_torus : (x : LocalRule) (g : GoalOf) (periods : Periods) → HasGoalFacts x g → HasReads (torus_layout x g periods) g
goal_reads_torus x (breaks y) periods ok = λ a node. ap (λ n. list_all (λ c. nat_lt c.node n) (reads_at y a)) (sym ok.1.nodes) ∙ reads_nodes y a ok.0 node
goal_reads_torus x (differ s f g) periods ok = tt
goal_reads_torus x always periods ok = tt

module _ (x : LocalRule) (g : GoalOf) (periods : Periods) (rule : IsRule x) (goal : HasGoalFacts x g) (ok : AreTorusPeriods x.dimension x.nodes periods) (values : GoalWired (torus_layout x g periods) x.symbols g) where
  torus_is_wired : IsWired (torus_layout x g periods) x g
  torus_is_wired =
      wired_layout (torus_layout x g periods) x g rule goal (torus_is_layout x periods rule ok g) (λ k d is. (torus_cell_at x periods rule ok k d is).node)
      (goal_reads_torus x g periods goal) values

  -- the rule is true everywhere exactly when it is true at all places of the layout
  holds_from_lives : (symbols : List ℕ) → Lives x (torus_of x periods symbols) → premise_holds (torus_layout x g periods) x (tile_look (torus_of x periods symbols)) ≡ true
  holds_from_lives symbols lives =
      filter_all (λ d. is_true x d (tile_look (torus_of x periods symbols))) (fits_in (torus_layout x g periods) x) (torus_cells x periods)
      (λ k d is _. lives d.position d.node (flat_place x periods rule ok k d is) (torus_cell_at x periods rule ok k d is).node)

  has_symbol : (symbols : List ℕ) → length symbols ≡ torus_size x periods → (c : Cell) → c.node < x.nodes → is_some (tile_look (torus_of x periods symbols) c) ≡ true
  has_symbol symbols full c node =
      rw (lt-ltb c.node x.nodes node)
      (ap is_some (slice_get-get_or symbols (tile_index (torus x periods) c) 0 (index_below (torus_of x periods symbols) (torus_is_tile x periods symbols rule ok full) c node)))

  lives_from_holds : (symbols : List ℕ) → length symbols ≡ torus_size x periods → premise_holds (torus_layout x g periods) x (tile_look (torus_of x periods symbols)) ≡ true →
      Lives x (torus_of x periods symbols)
  lives_from_holds symbols full holds v a flat node =
      let look = tile_look (torus_of x periods symbols) in
      let base = base_of periods v in
      let there = filter_at (λ d. is_true x d look) (fits_in (torus_layout x g periods) x) (torus_cells x periods) (tile_index (torus x periods) (cell v a)) (cell base a)
      holds (torus_cell_there x periods rule ok v a node) (reads_nodes x a rule node) in
      sym (keeps_at x look look base v a (λ c _. look_periodic x periods rule ok symbols v c)
      (list_all_weaker (λ c. nat_lt c.node x.nodes) (λ c. is_some (look (shifted base c)))
      (λ c h. has_symbol symbols full (shifted base c) (ltb-true c.node x.nodes h)) (reads_at x a) (reads_nodes x a rule node)))
      ∙ there

  witness_from_stands : (symbols : List ℕ) → Stands (torus_layout x g periods) x g symbols → IsWitness x g (torus_of x periods symbols)
  witness_from_stands symbols stands =
      let full : length symbols ≡ torus_size x periods = stands.symbols_fit.as_many ∙ length-torus_cells x periods rule ok in
      record {
        tile = torus_is_tile x periods symbols rule ok full;
        fits = record { dimension = refl; nodes = refl; symbols = stands.symbols_fit.below };
        allowed = look_allowed (torus_layout x g periods) x symbols (torus_is_layout x periods rule ok g) stands.symbols_fit;
        lives = lives_from_holds symbols full stands.premise;
        goal = goal_from_test g (tile_look (torus_of x periods symbols)) stands.goal;
      }

  stands_from_witness : (symbols : List ℕ) → IsWitness x g (torus_of x periods symbols) → Stands (torus_layout x g periods) x g symbols
  stands_from_witness symbols witness = record {
    symbols_fit = record {
      as_many = witness.tile.full ∙ sym (length-torus_cells x periods rule ok);
      below = witness.fits.symbols;
      allowed = λ k d is.
          (let within : k < length symbols = (let low = slice_get_within (torus_cells x periods) k d is in omega (arith, witness.tile.full, length-torus_cells x periods rule ok)) in
          let number : slice_get symbols (tile_index (torus x periods) d) ≡ Some (get_or symbols k 0) =
          ap (slice_get symbols) (torus_index_at x periods rule ok k d is) ∙ slice_get-get_or symbols k 0 within in
          let look : tile_look (torus_of x periods symbols) d ≡ Some (get_or symbols k 0) = rw (lt-ltb d.node x.nodes (torus_cell_at x periods rule ok k d is).node) number in
          subst (λ o. IfSome o (λ s. rule_allows x d.node s ≡ true)) look (witness.allowed d));
    };
    premise = holds_from_lives symbols witness.lives;
    goal = test_from_goal g (tile_look (torus_of x periods symbols)) witness.goal;
  }

  -- a configuration of these periods is the one that `torus_of` makes of its symbols
  same_tile : (t : Tile) → HasPeriods periods t → Fits x t → torus_of x periods t.symbols ≡ t
  same_tile t has fit = rw (sym has, sym fit.dimension, sym fit.nodes) refl

  pub torus_shows : ShowsTorus (problem_clauses (torus_layout x g periods) x g) x g periods
  torus_shows =
      let l = torus_layout x g periods in
      record {
        each = λ set satisfied.
            (let ss = read_symbols set x.symbols (length l.places) in
            let read = problem_read set l x g torus_is_wired (is_satisfied-Satisfies set (problem_clauses l x g) satisfied) in
            (torus_of x periods ss, refl, witness_from_stands ss read.0, read.1));
        every = λ t has witness.
            (let same = same_tile t has witness.fits in
            let stands = stands_from_witness t.symbols (subst (IsWitness x g) (sym same) witness) in
            let done = problem_written l x g torus_is_wired t.symbols stands in
            (assignment l x g t.symbols, Satisfies-is_satisfied (assignment l x g t.symbols) (problem_clauses l x g) done.0, done.1));
      }

  -- the clauses depend only on their own variables
  pub torus_alike : (set other : ℕ → Bool) → Alike (torus_problem x g periods).variables other set → Satisfies set (torus_problem x g periods).clauses →
      Satisfies other (torus_problem x g periods).clauses
  torus_alike set other same ok =
      let l = torus_layout x g periods in
      Satisfies-is_satisfied other (problem_clauses l x g) (satisfied_alike set other l x g torus_is_wired same (is_satisfied-Satisfies set (problem_clauses l x g) ok))
