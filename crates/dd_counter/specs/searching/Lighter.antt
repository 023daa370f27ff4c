-- What the search for a lighter configuration returns. A configuration is light if its weight is below a bound, or the bound is 0.
use Rattle.std.specs.Prelude.{ℕ, List}
use Rattle.dd_pattern.specs.{declared.periods.Periods.Periods, Tile.Tile}
use Rattle.dd_formula.specs.LocalRule.{LocalRule}
use Rattle.dd_counter.specs.declared.least.Lighter.{Lighter}
use Rattle.dd_counter.specs.{declared.least.Lighter.TheVariants.Found, declared.least.Lighter.TheVariants.Nothing, Weights.IsLightWitness}
use Rattle.dd_counter.specs.Least.{IsRefutedBelow}

-- The result is right: it is a living configuration that is light, or steps that refute the clauses that ask for one. In the second case there is
-- none.
abbrev pub IsLighter : LocalRule → Periods → List ℕ → ℕ → Lighter → Type 0
IsLighter x p ws below (Found t) = IsLightWitness x p ws below t
IsLighter x p ws below (Nothing steps) = ((t : Tile) → IsLightWitness x p ws below t → ⊥) × IsRefutedBelow x p ws below steps
