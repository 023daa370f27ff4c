-- What the clauses of a torus say about the configuration that is read from an assignment.
use Rattle.std.proofs.Common.{◌≡◌, ℕ, ◌*◌, Bool, List, length, sym, subst, ◌∙◌}
use Rattle.dd_pattern.specs.{declared.periods.Periods.Periods, Periods.periods_volume, Tile.Tile, Tile.IsTile}
use Rattle.dd_formula.specs.{LocalRule.LocalRule, Living.Fits}
use Rattle.dd_clause.specs.{declared.clause.Literal.Literal, Clauses.Satisfies}
use Rattle.dd_boxes.specs.{Goals.GoalOf, Witnesses.HasPeriods, Witnesses.IsWitness}
use Rattle.dd_problem.specs.{Symbols.AreRead, Symbols.HasOneEach, Shows.ShowsTorus}
use Rattle.dd_problem.specs.lemmas.SymbolLaws.{size_is, one_each_read}

module _ (x : LocalRule) (g : GoalOf) (p : Periods) (clauses : List (List Literal)) (shows : ShowsTorus clauses x g p) where
  pub one_each : (set : ℕ → Bool) → Satisfies set clauses → HasOneEach set x.symbols (periods_volume p * x.nodes)
  one_each set satisfied =
      let shown = shows.each set satisfied in
      one_each_read x p set shown.0 shown.2.tile shown.1 shown.2.fits shown.3

  -- the configuration that is read from a satisfying assignment has these periods, lives in the premise's subshift and has the goal at the origin
  pub read_shows : (set : ℕ → Bool) → Satisfies set clauses → (t : Tile) → IsTile t → HasPeriods p t → Fits x t →
      ((u : Tile) → HasPeriods p u → Fits x u → AreRead set x.symbols u.symbols → length u.symbols ≡ length t.symbols → u ≡ t) → HasPeriods p t × IsWitness x g t
  read_shows set satisfied t tile has fit only =
      let shown = shows.each set satisfied in
      let same_size : length shown.0.symbols ≡ length t.symbols = size_is x p shown.0 shown.2.tile shown.1 shown.2.fits ∙ sym (size_is x p t tile has fit) in
      (has, subst (IsWitness x g) (only shown.0 shown.1 shown.2.fits shown.3 same_size) shown.2)
