-- Whether the values of two automata differ at the origin of a configuration that fits the premise.
use Rattle.std.proofs.Common.{◌≡◌, ℕ, ◌<◌, Bool, true, sym, subst}
use Rattle.std.specs.Prelude.{◌↔◌}
use Rattle.dd_pattern.specs.Tile.{Tile, IsTile}
use Rattle.dd_formula.specs.{LocalRule.LocalRule, Allowed.HasAllowed, Living.Fits, Living.Lives}
use Rattle.dd_formula.specs.{Automata.CommonNumbers, Automata.IsAutomaton, declared.automaton.Automaton.Automaton}
use Rattle.dd_boxes.specs.{Goals.differ, Views.numbers_of, Witnesses.IsWitness}
use Rattle.dd_automaton.specs.Images.{IsDefinedOn, DifferAtOrigin}

abbrev setting : ℕ → ℕ → ℕ → CommonNumbers
setting d n s = record { dimension = d; nodes = n; symbols = s }

module _ (x : LocalRule) (t : Tile) (fits : Fits x t) where
  -- an automaton that is well formed over the premise's dimension, nodes and alphabet is defined on the configuration
  pub defined : (f : Automaton) → IsAutomaton (numbers_of x) f → IsDefinedOn f t
  defined f formed = record {
    symbols = x.symbols;
    formed = subst (λ d. IsAutomaton (setting d t.nodes x.symbols) f) (sym fits.dimension)
        (subst (λ n. IsAutomaton (setting x.dimension n x.symbols) f) (sym fits.nodes) formed);
    below = fits.symbols;
  }

  -- If the configuration has allowed symbols and lives in the premise's subshift, a test of whether the automata differ at the origin decides whether
  -- the configuration is a witness of the goal that they differ.
  pub difference_decides : (f g : Automaton) → IsTile t → HasAllowed x t → Lives x t → (b : Bool) → (b ≡ true) ↔ DifferAtOrigin f g t →
      (b ≡ true) ↔ IsWitness x (differ (numbers_of x) f g) t
  difference_decides f g tile allowed lives b told = (
    λ h. (let found = told.0 h in record {
      tile = tile;
      fits = fits;
      allowed = allowed;
      lives = lives;
      goal = (found.0, subst (λ n. found.0 < n) fits.nodes found.1, found.2);
    }),
    λ w. told.1 (w.goal.0, subst (λ n. w.goal.0 < n) (sym fits.nodes) w.goal.1, w.goal.2),
  )
