-- What refuted clauses say about the weights of the living configurations, and why there is at most one least weight.
use Rattle.std.proofs.Common.{◌≡◌, ℕ, zero, suc, ◌<◌, ◌≤◌, List, length, arith, inl, inr}
use Rattle.std.proofs.lemmas.Bool.{cases_lt}
use Rattle.dd_derivation.specs.{declared.step.Step.Step, Derivations.IsRefuting, lemmas.Soundness.refutes_sound}
use Rattle.dd_pattern.specs.{declared.periods.Periods.Periods, Tile.Tile, Weight.total_weight}
use Rattle.dd_formula.specs.LocalRule.{LocalRule, IsRule}
use Rattle.dd_boxes.specs.TorusPeriods.{AreTorusPeriods}
use Rattle.dd_counter.specs.Weights.{weight_problem, IsLight, IsLightWitness, ShowsWeights}
use Rattle.dd_counter.specs.Least.{IsLiving, LeastOn, NoneOn, IsRefutedBelow, IsLeastShown}
use Rattle.dd_counter.specs.lemmas.WeightShows.{weight_shows}

light_below : (below : ℕ) (ws : List ℕ) (t : Tile) → total_weight ws t.symbols < below → IsLight below ws t
light_below zero ws t h = tt
light_below (suc b) ws t h = h

-- if none of the living configurations is light, each of them weighs at least the bound
pub none_lighter : (x : LocalRule) (p : Periods) (ws : List ℕ) (below : ℕ) → ((t : Tile) → IsLightWitness x p ws below t → ⊥) → (t : Tile) → IsLiving x p t →
    below ≤ total_weight ws t.symbols
none_lighter x p ws below none t lives = elim (cases_lt (total_weight ws t.symbols) below) as (λ _. below ≤ total_weight ws t.symbols) [
  | inl less ↦ absurd (none t (record { along = lives.0; witness = lives.1; light = light_below below ws t less }))
  | inr least ↦ least
]

-- if the clauses are refuted, no living configuration is light
pub none_light : (x : LocalRule) (p : Periods) (ws : List ℕ) (below : ℕ) (steps : List Step) → ShowsWeights (weight_problem x p ws below).clauses x p ws below →
    IsRefuting (weight_problem x p ws below) steps → (t : Tile) → IsLightWitness x p ws below t → ⊥
none_light x p ws below steps shows refuting t light =
    let read = shows.every t light in
    let cnf = weight_problem x p ws below in
    refutes_sound cnf.variables cnf.clauses steps refuting read.0 read.1

pub none_lives : (x : LocalRule) (p : Periods) (ws : List ℕ) (steps : List Step) → ShowsWeights (weight_problem x p ws 0).clauses x p ws 0 →
    IsRefuting (weight_problem x p ws 0) steps → NoneOn x p
none_lives x p ws steps shows refuting t lives = none_light x p ws 0 steps shows refuting t (record { along = lives.0; witness = lives.1; light = tt })

-- a living configuration has the least weight, if its weight is 0 or the clauses that ask for less are refuted
pub least_refuted : (x : LocalRule) (p : Periods) (ws : List ℕ) (w : ℕ) (t : Tile) (steps : List Step) → IsLiving x p t → total_weight ws t.symbols ≡ w →
    (0 < w → ShowsWeights (weight_problem x p ws w).clauses x p ws w) → (0 < w → IsRefuting (weight_problem x p ws w) steps) → LeastOn x p ws w
least_refuted x p ws w t steps lives weighs shows refuting = record {
  some = (t, lives, weighs);
  least = λ u living. elim (cases_lt 0 w) as (λ _. w ≤ total_weight ws u.symbols) [
    | inl some ↦ none_lighter x p ws w (none_light x p ws w steps (shows some) (refuting some)) u living
    | inr none ↦ omega (arith, none)
  ];
}

pub least_shown : (x : LocalRule) (p : Periods) (ws : List ℕ) (w : ℕ) (t : Tile) (steps : List Step) → IsLiving x p t → total_weight ws t.symbols ≡ w →
    ((u : Tile) → IsLightWitness x p ws w u → ⊥) → 0 < w → IsRefutedBelow x p ws w steps → IsLeastShown x p ws w t steps
least_shown x p ws w t steps lives weighs none some refuted = record {
  least = record { some = (t, lives, weighs); least = none_lighter x p ws w none };
  lives = lives;
  weighs = weighs;
  refutes = λ _. refuted;
  empty = λ zero. absurd (omega (arith, some, zero));
}

-- `least_refuted` and `none_lives` again; their assumption `ShowsWeights` follows here from `weight_shows`
module _ (x : LocalRule) (p : Periods) (ws : List ℕ) (rule : IsRule x) (ok : AreTorusPeriods x.dimension x.nodes p) (same : length ws ≡ x.symbols) where
  pub least_claimed : (w : ℕ) (t : Tile) (steps : List Step) → IsLiving x p t → total_weight ws t.symbols ≡ w → (0 < w → IsRefuting (weight_problem x p ws w) steps) → LeastOn x p ws w
  least_claimed w t steps lives weighs refuting = least_refuted x p ws w t steps lives weighs (λ _. weight_shows x p ws w rule ok same) refuting

  pub none_claimed : (steps : List Step) → IsRefuting (weight_problem x p ws 0) steps → NoneOn x p
  none_claimed steps refuting = none_lives x p ws steps (weight_shows x p ws 0 rule ok same) refuting

-- there is at most one least weight
pub least_unique : (x : LocalRule) (p : Periods) (ws : List ℕ) (v w : ℕ) → LeastOn x p ws v → LeastOn x p ws w → v ≡ w
least_unique x p ws v w one two =
    let here = two.least one.some.0 one.some.1 in
    let there = one.least two.some.0 two.some.1 in
    omega (arith, here, there, one.some.2, two.some.2)

-- there is no least weight if there is no living configuration
pub none_not_least : (x : LocalRule) (p : Periods) (ws : List ℕ) (w : ℕ) → NoneOn x p → LeastOn x p ws w → ⊥
none_not_least x p ws w none least = none least.some.0 least.some.1
