-- The least weight of the living configurations of given periods.
use Rattle.std.specs.Prelude.{◌≡◌, ◌<◌, ◌≤◌, ℕ, List, []}
use Rattle.dd_derivation.specs.{declared.step.Step.Step, Derivations.IsRefuting, Sizes.AreNumbered}
use Rattle.dd_pattern.specs.{declared.periods.Periods.Periods, Tile.Tile, Weight.total_weight}
pub use Rattle.dd_expansion.specs.Limits.{greatest}
use Rattle.dd_formula.specs.LocalRule.{LocalRule}
use Rattle.dd_boxes.specs.{Goals.always, Witnesses.IsWitness, Witnesses.HasPeriods}
use Rattle.dd_counter.specs.declared.least.LeastWeight.{LeastWeight}
use Rattle.dd_counter.specs.declared.least.LeastWeight.TheVariants.{Least, Nothing}
use Rattle.dd_counter.specs.Weights.{weight_problem}

-- A living configuration has these periods and this shear, has only symbols that its nodes allow, and lives in the rule's subshift: the rule is true
-- at every cell.
abbrev pub IsLiving : LocalRule → Periods → Tile → Type 0
IsLiving x p t = HasPeriods p t × IsWitness x always t

-- some living configuration has this weight, and none has a smaller one
pub record LeastOn (x : LocalRule) (p : Periods) (ws : List ℕ) (w : ℕ) : Type 0 where
  pub some : (t : Tile) × IsLiving x p t × (total_weight ws t.symbols ≡ w)
  pub least : (t : Tile) → IsLiving x p t → w ≤ total_weight ws t.symbols

-- there is no living configuration
abbrev pub NoneOn : LocalRule → Periods → Type 0
NoneOn x p = (t : Tile) → IsLiving x p t → ⊥

-- the steps refute the clauses that ask for less than w (for any weight if w is 0), and the numbers of variables, clauses and steps are in range (see
-- `AreNumbered`)
pub record IsRefutedBelow (x : LocalRule) (p : Periods) (ws : List ℕ) (w : ℕ) (steps : List Step) : Type 0 where
  pub refuting : IsRefuting (weight_problem x p ws w) steps
  pub numbered : AreNumbered (weight_problem x p ws w) steps

-- The living configuration has the least weight w. If w is 0, there are no steps. Otherwise the steps refute the clauses that ask for less.
pub record IsLeastShown (x : LocalRule) (p : Periods) (ws : List ℕ) (w : ℕ) (t : Tile) (steps : List Step) : Type 0 where
  pub least : LeastOn x p ws w
  pub lives : IsLiving x p t
  pub weighs : total_weight ws t.symbols ≡ w
  pub refutes : 0 < w → IsRefutedBelow x p ws w steps
  pub empty : w ≡ 0 → steps ≡ []

-- the result of the search for the least weight is right
abbrev pub IsLeast : LocalRule → Periods → List ℕ → LeastWeight → Type 0
IsLeast x p ws (Least w t steps) = IsLeastShown x p ws w t steps
IsLeast x p ws (Nothing steps) = NoneOn x p × IsRefutedBelow x p ws 0 steps
