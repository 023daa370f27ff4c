-- A discharge has at most one outcome: one bound, or one reason why there is none. Running out of memory doesn't count.
use Rattle.std.specs.Prelude.{ℕ, ◌≡◌, ◌⊎◌, List}
use Rattle.dd_lattice.specs.Place.{Place}
use Rattle.dd_formula.specs.LocalRule.{LocalRule}
use Rattle.dd_discharge.specs.{declared.bound.Bound.Bound, Bounds.IsBoundOf, Bounds.Overflows, Bounds.StopsAtPivots}
use Rattle.dd_rows.specs.Programs.{IsLargeProgram}

pub record HasOneOutcome (x : LocalRule) (ws : List ℕ) (radius margin : ℕ) (vs : List Place) (pivots : ℕ) : Type 0 where
  pub one_bound : (b c : Bound) → IsBoundOf x ws radius margin vs pivots b → IsBoundOf x ws radius margin vs pivots c → b ≡ c
  pub not_large : (b : Bound) → IsBoundOf x ws radius margin vs pivots b → IsLargeProgram x ws radius margin vs → ⊥
  pub not_over : (b : Bound) → IsBoundOf x ws radius margin vs pivots b → Overflows x ws radius margin vs pivots → ⊥
  pub not_stopped : (b : Bound) → IsBoundOf x ws radius margin vs pivots b → StopsAtPivots x ws radius margin vs pivots → ⊥
  pub large_alone : IsLargeProgram x ws radius margin vs → Overflows x ws radius margin vs pivots ⊎ StopsAtPivots x ws radius margin vs pivots → ⊥
  pub over_alone : Overflows x ws radius margin vs pivots → StopsAtPivots x ws radius margin vs pivots → ⊥
