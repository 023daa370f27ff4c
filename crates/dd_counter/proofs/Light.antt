-- The search for a lighter configuration reads one from an assignment that satisfies the clauses.
use Rattle.std.proofs.Common.{◌≡◌, ℕ, ◌*◌, Bool, List, length, sym, subst, ◌∙◌}
use Rattle.dd_clause.specs.{declared.clause.Literal.Literal, Clauses.Satisfies}
use Rattle.dd_pattern.specs.{declared.periods.Periods.Periods, Periods.periods_volume, Tile.Tile, Tile.IsTile}
use Rattle.dd_formula.specs.{LocalRule.LocalRule, Living.Fits}
use Rattle.dd_boxes.specs.Witnesses.{HasPeriods}
use Rattle.dd_problem.specs.{Symbols.AreRead, Symbols.HasOneEach, lemmas.SymbolLaws.size_is, lemmas.SymbolLaws.one_each_read}
use Rattle.dd_counter.specs.Weights.{IsLightWitness, ShowsWeights}

module _ (x : LocalRule) (p : Periods) (ws : List ℕ) (below : ℕ) (clauses : List (List Literal)) (shows : ShowsWeights clauses x p ws below) where
  -- an assignment that satisfies the clauses gives each cell exactly one symbol
  pub one_each : (set : ℕ → Bool) → Satisfies set clauses → HasOneEach set x.symbols (periods_volume p * x.nodes)
  one_each set satisfied =
      let shown = shows.each set satisfied in
      one_each_read x p set shown.0 shown.1.witness.tile shown.1.along shown.1.witness.fits shown.2

  -- the configuration that is read is the one that the assignment stands for, so it is living and light
  pub read_light : (set : ℕ → Bool) → Satisfies set clauses → (t : Tile) → IsTile t → HasPeriods p t → Fits x t →
      ((u : Tile) → HasPeriods p u → Fits x u → AreRead set x.symbols u.symbols → length u.symbols ≡ length t.symbols → u ≡ t) → IsLightWitness x p ws below t
  read_light set satisfied t tile has fit only =
      let shown = shows.each set satisfied in
      let same_size : length shown.0.symbols ≡ length t.symbols = size_is x p shown.0 shown.1.witness.tile shown.1.along shown.1.witness.fits ∙ sym (size_is x p t tile has fit) in
      subst (IsLightWitness x p ws below) (only shown.0 shown.1.along shown.1.witness.fits shown.2 same_size) shown.1
